-- A walk's explainer, and the entries of the last token.
use Rattle.std.proofs.Common.{◌≡◌, ℕ, ◌+◌, ◌^◌, ◌<◌, ◌≤◌, Bool, true, false, cond, List, [], ◌∷◌}
use Rattle.std.proofs.Common.{◌++◌, filter, inl, length, All, Some, refl, sym, ap, subst, ◌∙◌}
use Rattle.std.proofs.Common.{arith, length-append}
use Rattle.fare_texts.specs.Explainers.{HasExplained, next_entry}
use Rattle.fare_texts.specs.{LedgerLines.IsLedgerLineAfter, declared.explainer.Explainer.Explainer}
use Rattle.histories.proofs.OwnEntries.{own_all}
use Rattle.histories.specs.{Entry.is_of, Entry.own, declared.entry.Entry.Entry}
use Rattle.ledger_check.proofs.{FrontLemmas.line_tap, RunLemmas.decreases_is, RunLemmas.own-of}
use Rattle.ledger_check.proofs.TokenOrder.{own-few}
use Rattle.ledger_check.specs.FullCheckStates.{HasRunExplainer, RepresentsRun}
use Rattle.ledger_check.specs.FullChecks.{AreCents, IsCounted, IsLineOfTap, decreases_after}
use Rattle.ledger_check.specs.{FullChecks.remark_for, Ledger.token_number}
use Rattle.ledger_check.specs.declared.{tap.Tap.Tap, walk.NextTap.NextTap}
use Rattle.ledger_check.specs.declared.walk.Remark.{Remark, TheVariants.Nothing}
use Rattle.ledger_check.specs.inside.FullChecks.{IsNextTap}
use Rattle.std.proofs.lemmas.{Bool.lt-ltb, Bool.Decides.nat_tests, List.Elements.All-push}
use Rattle.std.proofs.lemmas.{List.Elements.All-tail, Slice.Eq.bytes_eq-Decides}
use Rattle.std.specs.{Prelude.nat_lt, Str.bytes_eq}
use Rattle.tap_views.proofs.TokenLemmas.{same_token}
use Rattle.tap_views.specs.{Token.Fits, Token.token_eq, declared.token.Token.Token}
use Rattle.tariffs.specs.Fares.{Fares}

pub run_none : (token : Token) (run : List Entry) → run ≡ [] → own token run ≡ []
unfolding own
run_none token run none = ap (own token) none

-- entries of another token
pub own-apart : (token other : Token) (run : List Entry) → All (λ entry. entry.token ≡ other) run
    → token_eq other token ≡ false → own token run ≡ []
unfolding own
own-apart token other [] all apart = refl
own-apart token other (e ∷ run) all apart =
    ap (λ (test : Bool). cond test (e ∷ filter (is_of token) run) (filter (is_of token) run))
    (ap (λ (t : Token). token_eq t token) (all 0 e (omega arith)) ∙ apart)
    ∙ own-apart token other run (All-tail (λ (x : Entry). x.token ≡ other) e run all) apart

apart_of : (a b : Token) → (token_number a ≡ token_number b → ⊥) → token_eq a b ≡ false
apart_of a b other = by_test (token_eq a b) refl
  where
    by_test : (t : Bool) → token_eq a b ≡ t → token_eq a b ≡ false
    by_test true same = absurd (other (ap (λ (t : Token). token_number t) (same_token a b same)))
    by_test false apart = apart

-- the token is another one
pub run_less : (fares : Fares) (explainer : Explainer) (run : List Entry) (token : Token)
    → RepresentsRun fares explainer run → token_number explainer.token < token_number token
    → (own token run ≡ []) × (decreases_after run token ≡ false)
run_less fares explainer run token holds less = (
  own-apart token explainer.token run holds.of_token
      (apart_of explainer.token token (λ is. omega (arith, is, less))),
  decreases_is run explainer.token token holds.of_token holds.some
      ∙ (let e : nat_lt (token_number token) (token_number explainer.token) ≡ false =
      grind (arith, nat_tests) in e),
)

pub run_greater : (fares : Fares) (explainer : Explainer) (run : List Entry) (token : Token)
    → RepresentsRun fares explainer run → token_number token < token_number explainer.token
    → (own token run ≡ []) × (decreases_after run token ≡ true)
run_greater fares explainer run token holds less = (
  own-apart token explainer.token run holds.of_token
      (apart_of explainer.token token (λ is. omega (arith, is, less))),
  decreases_is run explainer.token token holds.of_token holds.some
      ∙ lt-ltb (token_number token) (token_number explainer.token) less,
)

pub run_equal : (fares : Fares) (explainer : Explainer) (run : List Entry) (token : Token)
    → RepresentsRun fares explainer run → explainer.token ≡ token
    → (own token run ≡ run) × (decreases_after run token ≡ false)
run_equal fares explainer run token holds same =
    let number : token_number explainer.token ≡ token_number token =
    ap (λ (t : Token). token_number t) same in (
      own_all token run
          (subst (λ (t : Token). All (λ (e : Entry). e.token ≡ t) run) same holds.of_token),
      decreases_is run explainer.token token holds.of_token holds.some
          ∙ (let e : nat_lt (token_number token) (token_number explainer.token) ≡ false =
          grind (arith, nat_tests) in e),
    )

-- the explainer that has taken one entry more stands for the run with it
pub holds_more : (fares : Fares) (explainer : Explainer) (run : List Entry) (token : Token)
    (entry : Entry) → Fits token → explainer.token ≡ token → entry.token ≡ token
    → HasExplained fares explainer (own token run ++ entry ∷ [])
    → HasRunExplainer fares (Some explainer) (own token run ++ entry ∷ [])
holds_more fares explainer run token entry fits same of explained =
    let size = length-append (own token run) (entry ∷ []) in
    record {
      fits = subst Fits (sym same) fits;
      explained = explained;
      of_token = subst
          (λ (t : Token). All (λ (e : Entry). e.token ≡ t) (own token run ++ entry ∷ [])) (sym same)
          (All-push (λ (e : Entry). e.token ≡ token) (own token run) entry (own-of token run) of);
      some = omega (arith, size);
    }

-- a line that names a tap is compared with the line that the tap makes
pub judged : (fares : Fares) (run : List Entry) (line wanted rest : List ℕ) (tap : Tap)
    (next : NextTap) (cents : ℕ) (remark : Remark) → IsNextTap fares run tap wanted next
    → IsLineOfTap line tap.token tap.validator tap.moment rest
    → AreCents remark rest (record { entry = next.entry; cents = cents })
    → remark ≡ remark_for next.is_decrease (bytes_eq line wanted)
    → IsCounted fares run line (record { entry = next.entry; cents = cents }) remark wanted
    × HasRunExplainer fares (Some next.explainer) (own next.entry.token run ++ next.entry ∷ [])
judged fares run line wanted rest tap next cents remark took of cents_are compared =
    let entry = next.entry in
    let is : next_entry fares tap.token (own tap.token run) tap.validator tap.moment ≡ entry =
    sym took.ruled in (
      record {
        rest = rest;
        of_tap = subst (λ (e : Entry). IsLineOfTap line e.token e.validator e.moment rest) is of;
        ruled = subst
            (λ (e : Entry). entry ≡ next_entry fares e.token (own e.token run) e.validator e.moment)
            is took.ruled;
        shown = subst
            (λ (e : Entry). IsLedgerLineAfter fares e.token (own e.token run) entry wanted) is
            took.shown;
        cents = cents_are;
        is_remark = compared
            ∙ ap (λ (b : Bool). remark_for b (bytes_eq line wanted)) took.decreasing
            ∙ ap (λ (e : Entry). remark_for (decreases_after run e.token) (bytes_eq line wanted))
            is;
      },
      subst (λ (e : Entry). HasRunExplainer fares (Some next.explainer)
          (own e.token run ++ entry ∷ [])) is took.explainer,
    )

-- a line that is the one that its tap makes
pub judged_right : (fares : Fares) (run : List Entry) (line wanted : List ℕ) (tap : Tap)
    (next : NextTap) → IsNextTap fares run tap wanted next → line ≡ wanted
    → next.is_decrease ≡ false → length run < 2 ^ 63 → Fits tap.token → tap.validator < 2 ^ 32
    → tap.moment < 4_102_444_800_000 → length line ≤ 255
    → IsCounted fares run line (record { entry = next.entry; cents = next.entry.cents }) Nothing
    wanted × HasRunExplainer fares (Some next.explainer)
    (own next.entry.token run ++ next.entry ∷ [])
judged_right fares run line wanted tap next took same up few fits small early short =
    let of = line_tap fares tap.token (length (own tap.token run) + 1) next.entry _ line
    (subst (λ (l : List ℕ). IsLedgerLineAfter fares tap.token (own tap.token run) next.entry l)
    (sym same) took.shown)
    (omega (arith, few, own-few tap.token run)) fits
    (subst (λ (e : Entry). e.validator < 2 ^ 32) (sym took.ruled) small)
    (subst (λ (e : Entry). e.moment < 4_102_444_800_000) (sym took.ruled) early) short in
    judged fares run line wanted of.0 tap next next.entry.cents Nothing took
    (subst (λ (e : Entry). IsLineOfTap line tap.token e.validator e.moment of.0) took.ruled of.1)
    (inl (refl, refl))
    (sym (ap (λ (b : Bool). remark_for b (bytes_eq line wanted)) up
    ∙ ap (remark_for false) ((bytes_eq-Decides line wanted).1 same)))
