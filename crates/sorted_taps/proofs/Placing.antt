-- Taps between places: what readers pass that begin at one place and come to another.
use Rattle.std.proofs.Common.{◌≡◌, ℕ, suc, zero, ◌<◌, List, [], ◌∷◌, ◌++◌, length, map, take, drop}
use Rattle.std.proofs.Common.{get_or, refl, sym, ap, subst, ◌∙◌, arith, None, Some, append_assoc}
use Rattle.std.proofs.Common.{length-append}
use Rattle.sorted_taps.proofs.After.{after_read, none_of_nothing}
use Rattle.sorted_taps.proofs.Batches.{batches_of, file_of, front_append}
use Rattle.sorted_taps.proofs.{Standing.read_further, Taking.passed_lengths, Taking.some_of}
use Rattle.sorted_taps.specs.{Merges.AreTaken, Positions.ArePlaced}
use Rattle.sorted_taps.specs.Positions.{AreSpanned, DoSpan, IsAt, IsLeftAfter, IsPlaced, IsSpanned}
use Rattle.sorted_taps.specs.{Positions.first_position, Readers.IsPassed, Readers.ahead}
use Rattle.sorted_taps.specs.Reading.{AreBatches, AreTapsBetween}
use Rattle.sorted_taps.specs.declared.positions.{FileSpan.FileSpan, Position.Position}
use Rattle.sorted_taps.specs.declared.reader.TapReader.{TapReader}
use Rattle.std.proofs.Math.Seq.{drop-append_seam, drop-length}
use Rattle.std.specs.{List.Sorted.IsSorted, Prelude.Option, Prelude.flat_map}
use Rattle.tap_parts.specs.Canonical.{tap_cmp, IsCanonical}
use Rattle.tap_views.proofs.ParseLemmas.{no_bytes}
use Rattle.tap_views.specs.{Encoding.fields_of, Files.IsFile, Files.taps_of_batches, Layout.Tap}
use Rattle.tap_views.specs.declared.encoder.TapFields.{TapFields}

-- ---- up to a file's end
-- taps up to the file's end are those of its batches
left_file : (all : List ℕ) (from : ℕ) (taps : List TapFields)
    (between : AreTapsBetween all from (length all) taps)
    → IsFile (drop from all) between.batches []
left_file all from taps between =
    file_of (drop from all) [] between.batches
    (subst (λ l. AreBatches (drop from all) between.batches l) (drop-length all) between.are)
    no_bytes

file_left : (all : List ℕ) (from : ℕ) (batches : List (List Tap))
    → IsFile (drop from all) batches []
    → AreTapsBetween all from (length all) (map fields_of (taps_of_batches batches))
file_left all from batches file = record {
  batches = batches;
  are = subst (λ l. AreBatches (drop from all) batches l) (sym (drop-length all))
      (batches_of (drop from all) [] batches file);
  read = refl;
}

-- ---- one file
-- what is left behind a place at which a reader stands: the taps in memory, and others behind them
record GoesOn (all : List ℕ) (reader : TapReader) (rest : List TapFields) : Type 0 where
  more : List TapFields
  is : rest ≡ ahead reader ++ more
  between : AreTapsBetween all reader.offset (length all) more
  none : ahead reader ≡ [] → more ≡ []

goes_on : (all : List ℕ) (to : Option Position) (reader : TapReader) (rest : List TapFields)
    → IsAt all to reader → (ahead reader ≡ [] → drop reader.offset all ≡ [])
    → IsLeftAfter all to rest → GoesOn all reader rest
goes_on all None reader rest at end left = record {
  more = [];
  is = left ∙ sym (ap (λ (l : List TapFields). l ++ []) at);
  between = record { batches = []; are = end at ∙ sym (drop-length all); read = refl };
  none = λ _. refl;
}
goes_on all (Some position) reader rest at end left =
    let passed = at.passed in
    let (batches, file, joined) = after_read all position.offset reader.offset
    (passed ++ ahead reader) left.between.batches at.holds.between
    (left_file all position.offset left.taps left.between) in
    let more = map fields_of (taps_of_batches batches) in
    record {
      more = more;
      is = left.rest_is
          ∙ ap (λ n. drop n left.taps) at.skip
          ∙ ap (drop (length passed)) (sym left.between.read ∙ joined
          ∙ append_assoc passed (ahead reader) more)
          ∙ drop-append_seam passed (ahead reader ++ more);
      between = file_left all reader.offset batches file;
      none = λ nothing. ap (λ bs. map fields_of (taps_of_batches bs))
          (none_of_nothing batches (subst (λ l. IsFile l batches []) (end nothing) file));
    }

first_of : (list more : List TapFields) → (list ≡ [] → more ≡ [])
    → take 1 list ≡ take 1 (list ++ more)
first_of [] more none = ap (take 1) (sym (none refl))
first_of (tap ∷ list) more none = refl

-- the reader began at the first place and came to the other
spanned_one : (all : List ℕ) (span : FileSpan) (begin new : TapReader) (list : List TapFields)
    → IsPlaced all span.from begin → IsPassed all begin list new → IsAt all span.to new
    → IsSpanned all span list
spanned_one all span begin new list placed passed at =
    let p = placed.passed in
    let here = read_further all span.from.offset p list begin new placed.holds passed in
    record {
      goes = λ rest left.
          let on = goes_on all span.to new rest at here.end left in
          let whole = ((p ++ list) ++ ahead new) ++ on.more in
          let regroup : whole ≡ p ++ (list ++ (ahead new ++ on.more)) =
          append_assoc (p ++ list) (ahead new) on.more
          ∙ append_assoc p list (ahead new ++ on.more) in
          let long = ap length regroup in
          let both = length-append p (list ++ (ahead new ++ on.more)) in
          let skip = placed.skip in
          record {
            taps = whole;
            between = front_append (drop span.from.offset all) (drop new.offset all)
                (drop (length all) all) ((p ++ list) ++ ahead new) on.more here.between on.between;
            skip = omega (arith, long, both, skip);
            rest_is = ap (λ l. list ++ l) on.is
                ∙ sym (drop-append_seam p (list ++ (ahead new ++ on.more)))
                ∙ ap (drop (length p)) (sym regroup)
                ∙ ap (λ n. drop n whole) (sym skip);
          };
      sorted = λ rest left.
          let on = goes_on all span.to new rest at here.end left in
          subst (λ l. IsSorted tap_cmp (list ++ l))
          (first_of (ahead new) on.more on.none ∙ ap (take 1) (sym on.is)) passed.sorted;
    }

-- ---- all files
spanned_all : (files : List (List ℕ)) (spans : List FileSpan) (lists : List (List TapFields))
    → length spans ≡ length files → length lists ≡ length files
    → ((k : ℕ) (s : FileSpan) → k < length files
    → IsSpanned (get_or files k []) (get_or spans k s) (get_or lists k []))
    → AreSpanned files spans lists
spanned_all [] [] [] many number each = tt
spanned_all [] [] (list ∷ lists) many number each = absurd (omega (arith, number))
spanned_all [] (span ∷ spans) lists many number each = absurd (omega (arith, many))
spanned_all (file ∷ files) [] lists many number each = absurd (omega (arith, many))
spanned_all (file ∷ files) (span ∷ spans) [] many number each = absurd (omega (arith, number))
spanned_all (file ∷ files) (span ∷ spans) (list ∷ lists) many number each = (
  each zero span (omega arith),
  spanned_all files spans lists (omega (arith, many)) (omega (arith, number))
      (λ k s inside. each (suc k) s (omega (arith, inside))),
)

-- files have taps between places, which merged are these
pub record AreMergedBetween (files : List (List ℕ)) (spans : List FileSpan) (taps : List TapFields)
    (readers : List TapReader) : Type 0 where
  pub lists : List (List TapFields)
  pub spanned : AreSpanned files spans lists
  pub canonical : IsCanonical (flat_map (λ list. list) lists) taps
  pub counted : map (λ (reader : TapReader). reader.passed) readers ≡ map length lists

-- taps that were taken by readers that began at places and came to others
pub taken_between : (files : List (List ℕ)) (positions : List Position) (begin end : List TapReader)
    (spans : List FileSpan) (taps : List TapFields) → length begin ≡ length files
    → length spans ≡ length files → ArePlaced files positions begin → AreTaken files begin taps end
    → DoSpan files positions end spans → AreMergedBetween files spans taps end
taken_between files positions begin end spans taps started many placed taken ends =
    let lists = taken.runs in
    let number = taken.number in
    let as_many = taken.as_many in
    record {
      lists = lists;
      spanned = spanned_all files spans lists many (omega (arith, number, started)) (λ k s inside.
          let here : k < length begin = omega (arith, inside, started) in
          let d = some_of begin k here in
          let (from, to) = ends.each k first_position d s (omega (arith, inside, many)) in
          spanned_one (get_or files k []) (get_or spans k s) (get_or begin k d) (get_or end k d)
          (get_or lists k []) (subst (λ p. IsPlaced (get_or files k []) p (get_or begin k d))
          (sym from) (placed.each k first_position d here).0) (taken.each k d here) to);
      canonical = taken.canonical;
      counted = passed_lengths end lists (omega (arith, number, as_many)) (λ k d inside.
          let here : k < length begin = omega (arith, inside, as_many) in
          let none = (placed.each k first_position d here).1 in
          let more = (taken.each k d here).number in
          omega (arith, more, none));
    }
