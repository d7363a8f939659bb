-- What parts say: their fronts, which are their texts up to the lines of tokens or of entries, and
-- these lines.
use Rattle.histories.specs.Sums.{Sums, add_sums}
use Rattle.part_texts.specs.declared.fronts.Stage.{Stage, TheVariants.Head}
use Rattle.sorted_taps.specs.declared.positions.Position.{Position}
use Rattle.std.specs.{BTreeMap.insert_entry, BTreeMap.is_at, Map.lookup}
use Rattle.std.specs.Ordering.{is_lt, nat_cmp}
use Rattle.std.specs.Prelude.{◌+◌, ◌^◌, ◌&&◌, ℕ, Bool, true, false, cond, List, [], ◌∷◌, Option}
use Rattle.std.specs.Prelude.{Some, None, option_map, unwrap_or, nat_eq, nat_le, nat_lt, not}
use Rattle.tap_views.specs.{Token.token_cmp, declared.token.Token.Token}
use Rattle.tap_views.specs.declared.upload_end.UploadEnd.{UploadEnd, TheVariants.Posted}

-- what the parts say, as far as they are read
pub record FrontsView : Type 0 where
  -- which line of the part is next
  pub stage : Stage
  pub is_first : Bool
  pub is_last : Bool
  pub is_ledger : Bool
  -- where the taps of the parts so far end in each file, from the next file on
  pub ends : List (Option Position)
  -- how many taps the parts so far have of each upload, from the next upload on
  pub taps : List ℕ
  -- the part's totals, and what its validators so far, or its tokens, add up to
  pub part : Sums
  pub so_far : Sums
  -- the totals, the validators and the number of tokens of all parts so far
  pub totals : Sums
  pub validators : List (ℕ × Sums)
  pub tokens : ℕ
  -- the token of the line before, of this part or of an earlier one
  pub last : Option Token

-- the sums of nothing
abbrev pub no_sums : Sums
no_sums = record {
  taps = 0;
  paid = 0;
  transfers = 0;
  capped = 0;
  stale = 0;
  unknown = 0;
  cents = 0;
}

-- two sums added up, if they have no more taps than any run has
abbrev pub sums_within : Sums → Sums → Option Sums
sums_within a b = cond (nat_le (a.taps + b.taps) (2 ^ 95)) (Some (add_sums a b)) None

-- two numbers added up, if the sum fits 64 bits
abbrev pub plus : ℕ → ℕ → Option ℕ
plus a b = cond (nat_lt (a + b) (2 ^ 64)) (Some (a + b)) None

abbrev pub sums_eq : Sums → Sums → Bool
sums_eq a b =
    nat_eq a.taps b.taps && (nat_eq a.paid b.paid && (nat_eq a.transfers b.transfers
    && (nat_eq a.capped b.capped && (nat_eq a.stale b.stale && (nat_eq a.unknown b.unknown
    && nat_eq a.cents b.cents)))))

-- the list with the validator's sums added to those that it has there
abbrev pub with_validator : List (ℕ × Sums) → ℕ × Sums → Option (List (ℕ × Sums))
with_validator list sum =
    option_map (λ sums. insert_entry nat_cmp list sum.0 sums)
    (sums_within (unwrap_or (lookup (is_at (nat_cmp sum.0)) list) no_sums) sum.1)

abbrev pub position_eq : Position → Position → Bool
position_eq a b = nat_eq a.offset b.offset && nat_eq a.skip b.skip

abbrev pub next_end : List (Option Position) → Option (Position × List (Option Position))
next_end [] = None
next_end (None ∷ ends) = None
next_end (Some position ∷ ends) = Some (position, ends)

-- where the part's taps must begin in the next file: at the file's begin, or where the part before
-- it ends; with the ends of the files that follow
abbrev pub starts : Bool → List (Option Position) → Option (Position × List (Option Position))
starts true ends = Some (record { offset = 0; skip = 0 }, ends)
starts false ends = next_end ends

abbrev pub is_file_end : Option Position → Bool
is_file_end None = true
is_file_end (Some position) = false

-- the last part ends at the end of each file
abbrev pub may_end : Bool → Option Position → Bool
may_end true to = is_file_end to
may_end false to = true

abbrev pub next_number : List ℕ → Option (ℕ × List ℕ)
next_number [] = None
next_number (number ∷ numbers) = Some (number, numbers)

-- how many taps the earlier parts have of the next upload
abbrev pub taps_before : Bool → List ℕ → Option (ℕ × List ℕ)
taps_before true taps = Some (0, taps)
taps_before false taps = next_number taps

-- the taps of an upload that was posted whole
abbrev pub posted_in : UploadEnd → Option ℕ
posted_in (Posted taps) = Some taps
posted_in _ = None

abbrev pub is_above : Option ℕ → ℕ → Bool
is_above None key = true
is_above (Some last) key = nat_lt last key

-- whether a token may follow the last one: it is above that of an earlier part or of another token's
-- line, and not below that of an entry before it
abbrev pub may_follow : Bool → Option Token → Token → Bool
may_follow is_first None token = true
may_follow true (Some last) token = is_lt (token_cmp last token)
may_follow false (Some last) token = not (is_lt (token_cmp token last))

-- before the first part
abbrev pub no_fronts : FrontsView
no_fronts = record {
  stage = Head;
  is_first = true;
  is_last = false;
  is_ledger = false;
  ends = [];
  taps = [];
  part = no_sums;
  so_far = no_sums;
  totals = no_sums;
  validators = [];
  tokens = 0;
  last = None;
}
