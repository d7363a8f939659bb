-- The rows of an agency's CSV, as they are read and encoded.
use Rattle.std.proofs.Common.{◌≡◌, ℕ, ◌+◌, List, [], ◌∷◌, ◌++◌, Bor, length, None, refl, sym, ap}
use Rattle.std.proofs.Common.{subst, ◌∙◌, arith, append-nil, length-append}
use Rattle.csv.specs.{Machine.next_record, Reading.Reached, Reading.strip_bom, Records.field_at}
use Rattle.csv.specs.declared.parser.State.{State, TheVariants.StartRecord}
use Rattle.csv.specs.declared.reader.Reader.{Reader}
use Rattle.std.proofs.lemmas.Slice.Zip.{AllZip-long}
use Rattle.std.specs.Prelude.{flat_map}
use Rattle.tap_rows.proofs.AgencyLemmas.{parses_more, refusals_more, refusals_text_more, taps_more}
use Rattle.tap_rows.specs.Agencies.{HasNoColumn, IsAgencyFault, IsWanting, IsSummary, refusal_of}
use Rattle.tap_rows.specs.Agencies.{refusal_text, refusals, refusals_head, refusals_text, tap_of}
use Rattle.tap_rows.specs.{Agencies.taps_in, AgencyRows.IsParseOf}
use Rattle.tap_rows.specs.AgencyTexts.{HasRecords, config_of, fields_read, first_record}
use Rattle.tap_rows.specs.declared.agency.choice.{Choice.Choice, Separator.Separator}
use Rattle.tap_rows.specs.declared.agency.fault.AgencyFault.{AgencyFault}
use Rattle.tap_rows.specs.declared.agency.{positions.Positions.Positions, reading.Reading.Reading}
use Rattle.tap_rows.specs.declared.{agency.summary.Summary.Summary, growing.Growing.Growing}
use Rattle.tap_rows.specs.inside.{Goings.IsGoing, Growing.IsGrown, Positions.ArePositions}
use Rattle.tap_rows.specs.inside.{Positions.IsHeadFault, RecordReaders.HasConsumed}
use Rattle.tap_views.specs.declared.encoder.TapFields.{TapFields}
use Rattle.tap_rows.specs.declared.agency.fault.AgencyFault.TheVariants as fault

-- ---- from row to row
pub going_first : (choice : Choice) (positions : Positions) (text : List ℕ)
    (reader : Reader (Bor (List ℕ))) (growing : Growing) (refused : List ℕ) (summary : Summary)
    (head : List (List ℕ)) → ArePositions choice head positions
    → HasConsumed choice.columns.now.separator text (head ∷ []) reader → IsGrown growing []
    → refused ≡ [] ++ refusals_head choice.columns.now.separator head → IsSummary [] [] summary
    → IsGoing choice positions text 0 reader growing refused summary
going_first choice positions text reader growing refused summary head columns consumed grown are
    summary_is = record {
      head = head;
      rows = [];
      readings = [];
      columns = columns;
      consumed = consumed;
      each = tt;
      number = refl;
      grown = grown;
      refused_are = are ∙ sym (append-nil (refusals_head choice.columns.now.separator head));
      summary_is = summary_is;
    }

pub going_more : (choice : Choice) (positions : Positions) (text : List ℕ) (count number : ℕ)
    (reader after : Reader (Bor (List ℕ))) (growing more : Growing) (refused others : List ℕ)
    (summary next : Summary) (row : List (List ℕ)) (reading : Reading)
    → IsGoing choice positions text count reader growing refused summary → number ≡ count + 2
    → ((rows : List (List (List ℕ))) → HasConsumed choice.columns.now.separator text rows reader
    → HasConsumed choice.columns.now.separator text (rows ++ row ∷ []) after)
    → ((head : List (List ℕ)) → ArePositions choice head positions
    → IsParseOf choice head row reading)
    → ((taps : List TapFields) → IsGrown growing taps → IsGrown more (taps ++ tap_of reading))
    → others ≡ refused ++ flat_map (refusal_text choice.columns.now.separator)
    (refusal_of number row reading)
    → ((rows : List (List (List ℕ))) (readings : List Reading) → number ≡ length rows + 2
    → length readings ≡ length rows → IsSummary rows readings summary
    → IsSummary (rows ++ row ∷ []) (readings ++ reading ∷ []) next)
    → IsGoing choice positions text (count + 1) after more others next
going_more choice positions text count number reader after growing more refused others summary next
    row reading going position consumed is_parse grown are counted =
    let separator = choice.columns.now.separator in
    let long : length going.readings ≡ length going.rows =
    AllZip-long (IsParseOf choice going.head) going.rows going.readings going.each in
    let numbered : number ≡ length going.rows + 2 = omega (arith, position, going.number) in
    let these = refusals_more going.rows going.readings row reading number long numbered in
    record {
      head = going.head;
      rows = going.rows ++ row ∷ [];
      readings = going.readings ++ reading ∷ [];
      columns = going.columns;
      consumed = consumed (going.head ∷ going.rows) going.consumed;
      each = parses_more choice going.head going.rows going.readings row reading going.each
          (is_parse going.head going.columns);
      number = omega (arith, going.number, length-append going.rows (row ∷ []));
      grown = subst (IsGrown more) (sym (taps_more going.readings reading))
          (grown (taps_in going.readings) going.grown);
      refused_are = are ∙ ap (λ bytes. bytes ++ flat_map (refusal_text separator)
          (refusal_of number row reading)) going.refused_are
          ∙ sym (ap (refusals_text separator going.head) these
          ∙ refusals_text_more separator going.head (refusals going.rows going.readings)
          (refusal_of number row reading));
      summary_is = counted going.rows going.readings numbered long going.summary_is;
    }

-- ---- a text without a head
pub no_head : (separator : Separator) (bytes name : List ℕ) → HasRecords separator bytes []
    → HasNoColumn (first_record separator bytes) name
unfolding Reached field_at
no_head separator bytes name (s, left, (same, all), none) =
    let first : next_record (config_of separator) StartRecord [] [] (strip_bom bytes) ≡ None =
    rw (same, all) none in
    subst (λ o. HasNoColumn (fields_read o) name) (sym first) (λ position is. cc (is.named))

-- the head that was read is the first record
pub head_is : (separator : Separator) (bytes : List ℕ) (head : List (List ℕ))
    (rows : List (List (List ℕ))) (s : State) (left : List ℕ)
    → Reached (config_of separator) StartRecord (strip_bom bytes) (head ∷ rows) s left
    → head ≡ first_record separator bytes
unfolding Reached
head_is separator bytes head rows s left (p, found, is, rest) = is ∙ ap fields_read (sym found)

-- a fault of the head is one of the text
pub head_fault : (choice : Choice) (bytes : List ℕ) (head : List (List ℕ)) (f : AgencyFault)
    → head ≡ first_record choice.columns.now.separator bytes → IsHeadFault choice head f
    → IsAgencyFault choice bytes f
head_fault choice bytes head (fault.Column wanted) same is =
    subst (λ h. IsWanting choice h wanted) same is
head_fault choice bytes head fault.NoMemory same is = tt
