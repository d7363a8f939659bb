-- The claims of shares. A split halves them, work keeps them, and whoever gathers shares that have
-- all claims misses nothing.
use Rattle.fare_service.specs.ShareView.{ShareView}
use Rattle.shared_books.specs.Claims.{all_claims, claims_given, claims_left}
use Rattle.shared_books.specs.{Drawing.DrawerView, Passes.PassView, Passes.left_pass}
use Rattle.std.specs.Prelude.{◌≡◌, ℕ, ◌<◌, List, [], ◌∷◌, map, sum_by, slice_index_or}

-- the claims of each pass
abbrev pub claims_of : List PassView → List ℕ
claims_of passes = map (λ pass. pass.claims) passes

-- the claims of the pass to a shard; none if there is no such shard
abbrev pub claims_at : ℕ → List PassView → ℕ
claims_at shard passes = slice_index_or (claims_of passes) shard 0

-- the shares together have all claims, to the drawing of uploads and to the book of each shard
pub record HaveAllClaims (shards : ℕ) (shares : List ShareView) : Type 0 where
  pub drawing : sum_by (λ share. share.drawer.claims) shares ≡ all_claims
  pub books : (shard : ℕ) → shard < shards
      → sum_by (λ share. claims_at shard share.passes) shares ≡ all_claims

-- one share has them
abbrev pub HasAllClaims : ℕ → ShareView → Type 0
HasAllClaims shards share = HaveAllClaims shards (share ∷ [])

-- the drawer that a split leaves
abbrev pub left_drawer : DrawerView → DrawerView
left_drawer drawer =
    record {
      drawn_from = drawer.drawn_from;
      claims = claims_left drawer.claims;
      seen = drawer.seen;
      drawn = drawer.drawn;
    }

-- the share that a split leaves: it has what it had, and its claims but those that were given away
abbrev pub left_share : ShareView → ShareView
left_share share =
    record {
      drawer = left_drawer share.drawer;
      passes = map left_pass share.passes;
      totals = share.totals;
      done = share.done;
      run = share.run;
    }

-- what a split gave to the new share: half of the claims
pub record HasHalf (old new : ShareView) : Type 0 where
  pub drawing : new.drawer.claims ≡ claims_given old.drawer.claims
  pub books : (shard : ℕ) → claims_at shard new.passes ≡ claims_given (claims_at shard old.passes)
