-- A ledger of which a beginning was written.
use Rattle.std.proofs.Common.{◌≡◌, ◌∙◌, ℕ, List, [], ◌∷◌, ◌++◌, Option, Some, ◌⊎◌, None, ap, inl}
use Rattle.std.proofs.Common.{inr, map, refl, subst, sym}
use Rattle.fare_texts.proofs.{Along.ledger_along, TextsExist.along_exist}
use Rattle.fare_texts.specs.{LedgerLines.head_text, WrittenOut.Begins}
use Rattle.settled_bills.proofs.{Rows.posted_nondecreasing, TapsExplained.begins_longer}
use Rattle.settlement.proofs.Nondecreasing.{canonical_nondecreasing}
use Rattle.settlement.specs.Posted.{HasName, posted, posted_after}
use Rattle.settlement.specs.{Settled.IsSettledHistory, SettledTaps.AreSettledTaps}
use Rattle.settled_bills.proofs.{Rest.goes_on, SettledFiles.settled_list, TapsExplained.lines_both}
use Rattle.settled_bills.specs.Ledgers.{IsLedgerOfFiles}
use Rattle.settled_bills.specs.inside.{MergedLines.HasLines, OwnTaps.AreOwnOf}
use Rattle.sorted_taps.proofs.Taking.{all_of}
use Rattle.sorted_taps.specs.{Merges.AreStarted, declared.reader.TapReader.TapReader}
use Rattle.std.proofs.lemmas.List.Sorted.{All-permutation}
use Rattle.tap_views.specs.declared.{encoder.TapFields.TapFields, token.Token.Token}
use Rattle.tariffs.specs.Fares.{Fares}

-- the texts are known, or they are not
abbrev AreKnown : List (Option (List ℕ)) → Type 0
AreKnown known = ((all : List (List ℕ)) × (known ≡ map Some all))
    ⊎ ((all : List (List ℕ)) → ¬ (known ≡ map Some all))

known_or_not : (known : List (Option (List ℕ))) → AreKnown known
known_or_not [] = inl ([], refl)
known_or_not (None ∷ known) = inr none
  where
    none : (all : List (List ℕ)) → ¬ (None ∷ known ≡ map Some all)
    none [] is = absurd (cc)
    none (file ∷ all) is = absurd (cc)
known_or_not (Some file ∷ known) =
    elim (known_or_not known) [
      | inl are ↦ inl (file ∷ are.0, ap (λ more. Some file ∷ more) are.1)
      | inr none ↦ inr (not_all none)
    ]
  where
    not_all : ((all : List (List ℕ)) → ¬ (known ≡ map Some all)) → (all : List (List ℕ))
        → ¬ (Some file ∷ known ≡ map Some all)
    not_all none [] is = absurd (cc)
    not_all none (first ∷ all) is = none all (let h : known ≡ map Some all = cc in h)

same_files : (all others : List (List ℕ)) → map Some all ≡ map Some others → all ≡ others
same_files [] [] is = refl
same_files [] (file ∷ others) is = absurd (cc)
same_files (file ∷ all) [] is = absurd (cc)
same_files (file ∷ all) (first ∷ others) is =
    let here : file ≡ first = cc in
    let rest : map Some all ≡ map Some others = cc in
    ap (λ f. f ∷ all) here ∙ ap (λ more. first ∷ more) (same_files all others rest)

-- of known files the text is the ledger, and of it a beginning was written
abbrev pub HasStartedLedger : Fares → List (Option (List ℕ)) → Option (List ℕ) → Option (List ℕ)
    → Type 0
HasStartedLedger fares known start after = (text : List ℕ)
    × ((all : List (List ℕ)) → known ≡ map Some all → IsLedgerOfFiles fares all text)
    × Begins start after text

known_started : (fares : Fares) (known : List (Option (List ℕ))) (all : List (List ℕ))
    (own : List TapFields) (numbers : List ℕ) (started readers : List TapReader) (least : Token)
    (start after : Option (List ℕ)) → known ≡ map Some all → AreOwnOf None all own numbers
    → AreStarted all started → least ≡ record { high = 0; low = 0 }
    → ((taps : List TapFields) → AreSettledTaps all taps
    → IsSettledHistory fares all (posted fares taps))
    → HasLines fares known started least readers (Begins start after)
    → HasStartedLedger fares known start after
known_started fares known all own numbers started readers least start after are first is is_least
    settled has =
    let (rest, canonical) =
    goes_on all first.lists started readers has.taps first.sorted is (has.taken.taken all are) in
    let taps = has.taps ++ rest in
    let before = posted fares has.taps in
    let (more, along) = along_exist fares before (posted_after fares before rest) in
    let lines = has.lines ++ more in (
      head_text ++ lines,
      λ others others_are.
          subst (λ files. IsLedgerOfFiles fares files (head_text ++ lines))
          (same_files all others (sym are ∙ others_are))
          (let named = All-permutation HasName (all_of first.lists) taps canonical.moved first.named
          in
          record {
            history = posted fares taps;
            is_settled = settled taps
                (settled_list all first.lists taps first.sorted canonical named);
            over = ledger_along fares (posted fares taps) lines
                (posted_nondecreasing fares least taps
                (canonical_nondecreasing least taps is_least named canonical.sorted))
                (lines_both fares [] has.taps rest (has.taps ++ rest) has.lines more refl has.are
                along);
          }),
      begins_longer start after head_text has.lines more has.holds,
    )

pub ledger_started : (fares : Fares) (known : List (Option (List ℕ))) (own : List TapFields)
    (numbers : List ℕ) (started readers : List TapReader) (least : Token)
    (start after : Option (List ℕ))
    → ((all : List (List ℕ)) → known ≡ map Some all → AreOwnOf None all own numbers)
    → ((all : List (List ℕ)) → known ≡ map Some all → AreStarted all started)
    → least ≡ record { high = 0; low = 0 }
    → ((all : List (List ℕ)) (taps : List TapFields) → AreSettledTaps all taps
    → IsSettledHistory fares all (posted fares taps))
    → HasLines fares known started least readers (Begins start after)
    → HasStartedLedger fares known start after
ledger_started fares known own numbers started readers least start after first is is_least settled has
    = elim (known_or_not known) [
      | inl are ↦
          known_started fares known are.0 own numbers started readers least start after are.1
          (first are.0 are.1) (is are.0 are.1) is_least (settled are.0) has
      | inr none ↦
          (head_text ++ has.lines, λ all are. absurd (none all are), has.holds)
    ]
