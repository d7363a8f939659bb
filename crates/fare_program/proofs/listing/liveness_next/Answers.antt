use Rattle.std.proofs.Common.{◌≡◌, ◌∙◌, ◌&&◌, ◌∷◌, ℕ, Bool, true, false, cond, if◌then◌else◌, List}
use Rattle.std.proofs.Common.{Option, None, Some, nat_lt, refl, sym, ap, arith, filter}
use Rattle.fare_program.specs.Listing.{HasLast, ListedTap, is_after, last_of}
use Rattle.std.proofs.lemmas.{Bool.Decides.nat_tests, Map.Text.is_eq-slice_cmp}
use Rattle.std.proofs.lemmas.Slice.Eq.{bytes_eq-Decides}
use Rattle.std.specs.{List.list_all, Str.bytes_eq}
use Rattle.tap_views.specs.Layout.{Tap, num}
use Rattle.fare_program.proofs.listing.liveness_next.Goals as goal

-- the later of a moment and the last one
abbrev kept : Option ℕ → ℕ → Option ℕ
kept last moment = if is_after last moment then Some moment else last

is_after-kept : (last : Option ℕ) (moment m : ℕ)
    → is_after (kept last moment) m ≡ (nat_lt moment m && is_after last m)
is_after-kept None moment m = grind (arith, nat_tests)
is_after-kept (Some l) moment m = grind (arith, nat_tests)

module _ (taps : List ListedTap) (tap : Tap) (last : List (List ℕ × ℕ))
    (before : HasLast last taps) where
  -- what is kept of a token after a known tap, by whether it is that tap's
  after : (other : List ℕ) (m : ℕ) (same : Bool) → (same ≡ true → tap.token ≡ other)
      → is_after (if same then kept (last_of last tap.token) (num tap.moment) else last_of last other) m
      ≡ list_all (λ t. nat_lt (num t.tap.moment) m)
      (cond same (record { tap = tap; known = true } ∷ filter (λ t. t.known && bytes_eq t.tap.token other) taps)
      (filter (λ t. t.known && bytes_eq t.tap.token other) taps))
  after other m false is = before other m
  after other m true is =
      is_after-kept (last_of last tap.token) (num tap.moment) m
      ∙ ap (λ b. nat_lt (num tap.moment) m && b) (rw (is refl) (before other m))

  after_known : (last' : List (List ℕ × ℕ))
      → ((other : List ℕ) → last_of last' other ≡ (if bytes_eq tap.token other then
      kept (last_of last tap.token) (num tap.moment) else last_of last other))
      → HasLast last' (record { tap = tap; known = true } ∷ taps)
  after_known last' is other m =
      rw (is other) (after other m _ (bytes_eq-Decides tap.token other).0)

pub returns-clause-listed : goal.returns-clause-listed
returns-clause-listed c = λ taps before.
    let tap = c.args.tap.now in
    let token : c.copy_from_slice.new.self ≡ tap.token = cc in
    let moment : c.moment_ms-moment.result ≡ num tap.moment = c.moment_ms-moment.ensures.number in
    let is_known_tap : c.args.known ≡ true = c.if-not-known.false in
    let later : is_after (last_of c.args.last.now.entries tap.token) (num tap.moment) ≡ true =
    rw (← token, ← moment) (sym c.is_later.ensures ∙ c.if-not-is_later.false) in (
      rw (is_known_tap, sym (before tap.token (num tap.moment)) ∙ later) refl,
      rw is_known_tap (after_known taps tap c.args.last.now.entries before c.insert.new.self.entries
          (λ other. rw (later, ← is_eq-slice_cmp tap.token other, ← token, ← moment) (c.in_ok-insert.ensures.updates.0 other))),
    )
