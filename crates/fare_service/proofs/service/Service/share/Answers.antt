use Rattle.std.proofs.Common.{ℕ, ◌≡◌, List, [], sym, ◌∙◌, ap, subst}
use Rattle.fare_service.proofs.ShareLemmas.{fresh_share, own_split, books_split, holding}
use Rattle.fare_service.proofs.ShareLemmas.{share_left, claims_given_at}
use Rattle.fare_service.specs.Claims.{claims_at, left_drawer, left_share}
use Rattle.fare_service.specs.ShareView.{ShareView}
use Rattle.fare_service.specs.Shares.{made_visits_at, books_of, IsFresh, IsShareOf}
use Rattle.histories.specs.Sums.{sums_of}
use Rattle.shared_books.specs.{Claims.claims_given, Passes.PassView}
use Rattle.fare_service.proofs.service.Service.share.Goals as goal

pub returns : goal.returns
returns g c =
    let service = c.args.self.now in
    let old = c.old.inside.posting.passes.items in
    let passes = c.in_ok-split_passes.ensures.new in
    let P : List PassView → Type 0 = λ ps. (shard : ℕ) → made_visits_at shard ps ≡ [] in
    let S : ShareView → Type 0 = IsShareOf service in
    let new = holding c.in_ok-drawer.drawer c.split_passes.new.new.items (sums_of c.new.result)
    c.new-2.result.items c.new-3.result.run in
    let fresh : IsFresh new = record {
      drawn = ap (λ d. d.drawn) c.in_ok-drawer.ensures.new;
      done = c.new-2.ensures.items;
      visits = subst P (sym passes) (λ shard. own_split shard old);
      totals = c.new.ensures;
      run = ap (λ calls. calls.run) c.new-3.ensures;
    } in
    let totals = sums_of c.old.inside.posting.totals in
    let done = c.old.inside.done.items in
    let run = c.old.inside.calls.run in
    let left = ap (λ d. holding d c.split_passes.new.old.items totals done run) c.split.ensures.old
    ∙ (ap (λ ps. holding (left_drawer c.old.inside.drawer) ps totals done run)
    c.in_ok-split_passes.ensures.old ∙ ap left_share c.old.view_is) in
    record {
      new = fresh_share service new fresh
          (ap (λ d. d.drawn_from) c.in_ok-drawer.ensures.new
          ∙ (ap (λ s. s.drawer.drawn_from) c.old.view_is ∙ c.requires.drawer))
          (ap books_of passes
          ∙ (books_split old ∙ (ap (λ s. books_of s.passes) c.old.view_is ∙ c.requires.passes)));
      fresh = fresh;
      half = record {
        drawing = ap (λ d. d.claims) c.in_ok-drawer.ensures.new
            ∙ ap (λ (s : ShareView). claims_given s.drawer.claims) c.old.view_is;
        books = λ shard. ap (claims_at shard) passes
            ∙ (claims_given_at shard old
            ∙ ap (λ (s : ShareView). claims_given (claims_at shard s.passes)) c.old.view_is);
      };
      old = left;
      kept = subst S (sym left) (share_left service c.args.old.now c.requires);
    }
