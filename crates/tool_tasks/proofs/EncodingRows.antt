-- What `encode` of an agency's own CSVs has loaded, prepared and done.
use Rattle.std.proofs.Common.{◌≡◌, ◌∙◌, ◌∷◌, ◌<◌, ◌+◌, ℕ, Bool, List, [], None, Option, Some}
use Rattle.std.proofs.Common.{ap, arith, drop, false, get_or, if◌then◌else◌, length, refl, subst}
use Rattle.std.proofs.Common.{suc, sym, true, zero}
use Rattle.frame.proofs.Outcomes.{stops_weaker}
use Rattle.frame.specs.{Outsides.Stops, declared.outside.Outside.Outside}
use Rattle.std.proofs.Math.ListN.{get_or-map}
use Rattle.std.proofs.lemmas.List.{drop_more, length-map, Elements.Contains-append_left}
use Rattle.std.proofs.lemmas.List.Elements.{Contains-append_right}
use Rattle.std.specs.Prelude.{Contains, Vec, filter_map, option_map}
use Rattle.std.specs.declared.alloc.Global.{Global}
use Rattle.tap_rows.specs.Agencies.{IsFirstRefused, IsRowsEncoded}
use Rattle.tap_rows.specs.declared.agency.choice.Choice.{Choice}
use Rattle.tap_rows.specs.declared.agency.{reading.Reason.Reason, summary.Summary.Summary}
use Rattle.tool_tasks.specs.EncodeRows.{Chain, IsWrongCsv, names_of, options_of, word_in}
use Rattle.tool_tasks.specs.EncodeTables.{zone_file, zone_loaded}
use Rattle.tool_tasks.specs.declared.prepared.{NewFile.NewFile, Prepared.Prepared}
use Rattle.tool_tasks.specs.inside.EncodeRows.{AreOf, IsOf, csvs_of}
use Rattle.tool_tasks.specs.inside.{Loads.IsNameIn, Prepared.AreNamed, Prepared.IsNamedIn}
use Rattle.tool_words.specs.declared.task.RowsWords.{RowsWords}

-- ---- loads
abbrev named : List (Option (List ℕ)) → List (List ℕ)
named options = filter_map (λ name. name) options

-- what an option names is among what all name
named_has : (options : List (Option (List ℕ))) (word : List ℕ) (k : ℕ) → k < length options
    → get_or options k (Some word) ≡ Some word → Contains (named options) word
named_has [] word k within is = absurd (omega (arith, within))
named_has (None ∷ options) word zero within is = absurd (cc is)
named_has (Some name ∷ options) word zero within is = (0, omega arith, cc is)
named_has (None ∷ options) word (suc k) within is =
    named_has options word k (omega (arith, within)) is
named_has (Some name ∷ options) word (suc k) within is =
    let (j, few, same) = named_has options word k (omega (arith, within)) is in
    (suc j, omega (arith, few), same)

module _ (words : RowsWords) (csvs : List (List ℕ)) where
  pub is_in : (o : Option (List ℕ)) → Contains (options_of words) o
      → IsNameIn (names_of words csvs) o
  is_in None has = tt
  is_in (Some name) has = Contains-append_left (named (options_of words)) csvs name
      (named_has (options_of words) name has.0 has.1 has.2)

  -- a CSV is after the others
  pub later_csv : (word : List ℕ) → Contains csvs word → Contains (names_of words csvs) word
  later_csv word has = Contains-append_right (named (options_of words)) csvs word has

  -- the file of the zone, if it has one
  pub zone_in : (o : Option (List ℕ)) → o ≡ zone_loaded (word_in words.zone)
      → IsNameIn (names_of words csvs) o
  zone_in None is = tt
  zone_in (Some word) is = is_in (Some word) (subst (Contains (options_of words))
      (zone_named (word_in words.zone) word (sym is)) (3, omega arith, refl))
    where
      zone_named : (zone : Option (List ℕ)) (word : List ℕ) → zone_loaded zone ≡ Some word
          → option_map zone_file zone ≡ Some word
      zone_named None word is = absurd (cc is)
      zone_named (Some name) word is = by _ is
        where
          by : (b : Bool) → (if b then Some (zone_file name) else None) ≡ Some word
              → Some (zone_file name) ≡ Some word
          by true same = same
          by false same = absurd (cc same)

  -- ---- the names of the files
  is_named : (word : Option (List ℕ)) (file : Option NewFile) → Contains (options_of words) word
      → IsOf word file → IsNamedIn (names_of words csvs) file
  is_named word None has of = tt
  is_named word (Some file) has of =
      is_in (Some file.name.now) (subst (Contains (options_of words)) of has)

  pub rows_named : (prepared : Prepared) → AreOf words prepared
      → AreNamed (names_of words csvs) prepared
  rows_named prepared of = record {
    first = is_named (word_in words.devices) prepared.first (0, omega arith, refl) of.devices;
    upload = is_named (word_in words.out) prepared.upload (4, omega arith, refl) of.upload;
    held = is_named (word_in words.refused) prepared.held (1, omega arith, refl) of.refused;
  }

-- ---- CSVs one after the other
pub chain_on : {S : Type 0} (Step : List ℕ → S → S → Type 0) (csvs : List (Vec ℕ Global)) (i : ℕ)
    (csv : Vec ℕ Global) (now new final : S) → i < length csvs → csv ≡ get_or csvs i csv
    → Step csv.items now new → Chain Step (csvs_of (drop (i + 1) csvs)) new final
    → Chain Step (csvs_of (drop i csvs)) now final
chain_on Step csvs i csv now new final within is step rest =
    subst (λ (xs : List (Vec ℕ Global)). Chain Step (csvs_of xs) now final)
    (sym (drop_more csvs i csv within))
    (subst (λ (c : Vec ℕ Global). Chain Step (c.items ∷ csvs_of (drop (i + 1) csvs)) now final) is
    (new, step, rest))

-- one of them is wrong
pub wrong_csv : (words : RowsWords) (choice : Choice) (csvs : List (Vec ℕ Global)) (i : ℕ) (csv : Vec ℕ Global)
    (why : Outside) → i < length csvs → csv ≡ get_or csvs i csv
    → Stops (IsWrongCsv words choice csv.items) why
    → Stops ((c : List ℕ) × Contains (csvs_of csvs) c × IsWrongCsv words choice c) why
wrong_csv words choice csvs i csv why within is stops = stops_weaker (λ wrong. (
  csv.items,
  (
    i,
    subst (λ n. i < n) (sym (length-map csvs (λ (c : Vec ℕ Global). c.items))) within,
    get_or-map (λ (c : Vec ℕ Global). c.items) csvs i csv ∙ ap (λ (c : Vec ℕ Global). c.items) (sym is),
  ),
  wrong,
)) why stops

-- the first row that is refused
pub first_refused : (choice : Choice) (text file refused : List ℕ) (summary : Summary) (number : ℕ)
    (reason : Reason) → IsRowsEncoded choice text file refused summary
    → summary.first_refused ≡ Some (number, reason) → IsFirstRefused choice text number reason
first_refused choice text file refused summary number reason is first = record {
  head = is.head;
  rows = is.rows;
  readings = is.readings;
  is_read = is.is_read;
  first = sym is.summary_is.first_refused ∙ first;
}
