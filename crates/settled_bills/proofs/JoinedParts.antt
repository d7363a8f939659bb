-- Parts of files that join, and what the files have in all of them.
use Rattle.std.proofs.Common.{◌≡◌, ℕ, suc, zero, ◌+◌, List, [], ◌∷◌, ◌++◌, length, map, All, get_or}
use Rattle.std.proofs.Common.{refl, sym, ap, subst, ◌∙◌, arith, None, Some, append-nil}
use Rattle.std.proofs.Common.{append_assoc, length-append}
use Rattle.histories.specs.{SumsByKey.token_of, declared.entry.Entry.Entry}
use Rattle.settlement.proofs.{Ranges.posted_below, Ranges.to_taps, TokenRuns.tokens_posted}
use Rattle.settlement.specs.Posted.{HasName, posted, token_of_tap}
use Rattle.settlement.specs.SettledTaps.{AreSettledTaps}
use Rattle.settled_bills.proofs.{Counted.plain_ends, SettledFiles.files_more, SettledFiles.settled_list}
use Rattle.settled_bills.specs.Parts.{ArePartsOf, AreIncreasing, IsPartOf, PartView, added}
use Rattle.settled_bills.specs.Parts.{numbers_of_parts}
use Rattle.settled_bills.specs.inside.Charged.{HaveTaps, joined_spans}
use Rattle.sorted_taps.proofs.{Joining.sorted_across, Joining.sorted_then, Standing.whole_file}
use Rattle.sorted_taps.proofs.Taking.{all_of, both, both_moved}
use Rattle.sorted_taps.specs.{Merged.IsNotBefore, Merges.AreSortedFiles, Positions.AreSpanned}
use Rattle.sorted_taps.specs.Positions.{AreWhole, DoJoin, IsLeftAfter, IsLeftAt, IsSpanned}
use Rattle.sorted_taps.specs.{Positions.first_position, Reading.AreTapsBetween, Sorted.IsSortedFile}
use Rattle.sorted_taps.specs.declared.positions.{FileSpan.FileSpan, Position.Position}
use Rattle.std.proofs.Math.Seq.{drop-length}
use Rattle.std.proofs.lemmas.{Cmp.nat_list_cmp_total, List.Elements.All-append}
use Rattle.std.proofs.lemmas.List.Elements.{All-cons, All-head, All-map, All-nil, All-tail}
use Rattle.std.proofs.lemmas.List.Sorted.{IsPermutation-append, IsPermutation-trans}
use Rattle.std.specs.Cmp.Lexicographic.{slice_cmp}
use Rattle.std.specs.Ordering.{is_lt, nat_cmp, ordering_reverse, ordering_then}
use Rattle.std.specs.Prelude.{Option, flat_map}
use Rattle.std.specs.declared.cmp.Ordering.TheVariants.{Less, Greater}
use Rattle.tap_parts.specs.Canonical.{IsCanonical}
use Rattle.tap_views.proofs.TokenBytes.{token-order}
use Rattle.tap_views.specs.{Token.token_cmp, TokenOrder.AreBelow, UploadEnds.ArePlainEnds}
use Rattle.tap_views.specs.declared.encoder.TapFields.{TapFields}
use Rattle.tap_views.specs.declared.upload_end.UploadEnd.TheVariants.{Posted}
use Rattle.tariffs.specs.Fares.{Fares}

-- ---- the lists of two parts, file by file
pub joined_lengths : (lists others : List (List TapFields))
    → map length (both lists others) ≡ added (map length lists) (map length others)
joined_lengths [] others = refl
joined_lengths (list ∷ lists) [] = refl
joined_lengths (list ∷ lists) (other ∷ others) =
    ap (λ n. n ∷ map length (both lists others)) (length-append list other)
    ∙ ap (λ ns. (length list + length other) ∷ ns) (joined_lengths lists others)

-- ---- two parts, the second of which begins where the first one ends
abbrev pub begins_of : List FileSpan → List (Option Position)
begins_of spans = map (λ (span : FileSpan). Some span.from) spans

abbrev pub ends_of : List FileSpan → List (Option Position)
ends_of spans = map (λ (span : FileSpan). span.to) spans

one_spanned : (file : List ℕ) (span other : FileSpan) (list more : List TapFields)
    → IsSpanned file span list → IsSpanned file other more → span.to ≡ Some other.from
    → IsSpanned file (record { from = span.from; to = other.to }) (list ++ more)
one_spanned file span other list more one next meet = record {
  goes = λ rest left. subst (λ taps. IsLeftAt file span.from taps)
      (sym (append_assoc list more rest)) (one.goes (more ++ rest) (here rest left));
  sorted = λ rest left.
      sorted_then list more rest (one.sorted (more ++ rest) (here rest left)) (next.sorted rest left);
}
  where
    here : (rest : List TapFields) → IsLeftAfter file other.to rest
        → IsLeftAfter file span.to (more ++ rest)
    here rest left =
        subst (λ to. IsLeftAfter file to (more ++ rest)) (sym meet) (next.goes rest left)

-- the files have the taps of both
spanned_both : (files : List (List ℕ)) (spans others : List FileSpan)
    (lists more : List (List TapFields)) → AreSpanned files spans lists
    → AreSpanned files others more → ends_of spans ≡ begins_of others
    → AreSpanned files (joined_spans spans others) (both lists more)
spanned_both [] [] [] [] [] first next meet = tt
spanned_both [] [] [] [] (l ∷ more) first next meet = absurd next
spanned_both [] [] [] (list ∷ lists) more first next meet = absurd first
spanned_both [] [] (other ∷ others) lists more first next meet = absurd next
spanned_both [] (span ∷ spans) others lists more first next meet = absurd first
spanned_both (file ∷ files) [] others lists more first next meet = absurd first
spanned_both (file ∷ files) (span ∷ spans) [] lists more first next meet = absurd next
spanned_both (file ∷ files) (span ∷ spans) (other ∷ others) [] more first next meet = absurd first
spanned_both (file ∷ files) (span ∷ spans) (other ∷ others) (list ∷ lists) [] first next meet =
    absurd next
spanned_both (file ∷ files) (span ∷ spans) (other ∷ others) (list ∷ lists) (l ∷ more) (one, first)
    (two, next) meet
    =
    let here : span.to ≡ Some other.from = cc in
    let rest : ends_of spans ≡ begins_of others = cc in (
      one_spanned file span other list l one two here,
      spanned_both files spans others lists more first next rest,
    )

-- they begin where the first begins, and end where the second ends
joined_ends : (spans others : List FileSpan) → ends_of spans ≡ begins_of others
    → (begins_of (joined_spans spans others) ≡ begins_of spans)
    × (ends_of (joined_spans spans others) ≡ ends_of others)
joined_ends [] [] meet = (refl, refl)
joined_ends [] (other ∷ others) meet = absurd (let long = ap length meet in omega (arith, long))
joined_ends (span ∷ spans) [] meet = absurd (let long = ap length meet in omega (arith, long))
joined_ends (span ∷ spans) (other ∷ others) meet =
    let rest : ends_of spans ≡ begins_of others = cc in
    let (begins, ends) = joined_ends spans others rest in
    (ap (λ all. Some span.from ∷ all) begins, ap (λ all. other.to ∷ all) ends)

-- a tap of a lower token is not behind the other
lower_first : (a b : TapFields) → HasName a → HasName b
    → token_cmp (token_of_tap a) (token_of_tap b) ≡ Less → IsNotBefore a b
lower_first a b of_a of_b less =
    let bytes : slice_cmp nat_cmp a.token b.token ≡ Less =
    sym (token-order (token_of_tap a) (token_of_tap b) of_a.fits of_b.fits
    ∙ (λ i. slice_cmp nat_cmp (of_a.named i) (of_b.named i))) ∙ less in
    let greater : slice_cmp nat_cmp b.token a.token ≡ Greater =
    nat_list_cmp_total.antisymm b.token a.token ∙ ap ordering_reverse bytes in
    ap (λ r. is_lt (ordering_then r (ordering_then (nat_cmp b.moment a.moment)
    (nat_cmp b.validator a.validator)))) greater

-- the taps of both, if the tokens of the first are below those of the second
canonical_both : (lists others : List (List TapFields)) (taps more : List TapFields)
    → IsCanonical (all_of lists) taps → IsCanonical (all_of others) more → All HasName taps
    → All HasName more → AreBelow (map token_of_tap taps) (map token_of_tap more)
    → IsCanonical (all_of (both lists others)) (taps ++ more)
canonical_both lists others taps more one next named other below = record {
  moved = IsPermutation-trans (all_of (both lists others)) (all_of lists ++ all_of others)
      (taps ++ more) (both_moved lists others)
      (IsPermutation-append (all_of lists) taps (all_of others) more one.moved next.moved);
  sorted = sorted_across taps more (λ j d inside k e within.
      lower_first (get_or taps j d) (get_or more k e) (named j d inside) (other k e within)
      (to_taps taps more below j d inside k e within)) one.sorted next.sorted;
}

pub both_have : (files : List (List ℕ)) (spans others : List FileSpan) (numbers counts : List ℕ)
    (taps more : List TapFields) → HaveTaps files spans numbers taps
    → HaveTaps files others counts more → ends_of spans ≡ begins_of others → All HasName taps
    → All HasName more → AreBelow (map token_of_tap taps) (map token_of_tap more)
    → HaveTaps files (joined_spans spans others) (added numbers counts) (taps ++ more)
both_have files spans others numbers counts taps more one next meet named other below = record {
  lists = both one.lists next.lists;
  spanned = spanned_both files spans others one.lists next.lists one.spanned next.spanned meet;
  counted = (λ i. added (one.counted i) (next.counted i))
      ∙ sym (joined_lengths one.lists next.lists);
  canonical = canonical_both one.lists next.lists taps more one.canonical next.canonical named
      other below;
}

-- ---- spans that are whole files
file_of_span : (file : List ℕ) (span : FileSpan) (list : List TapFields)
    → IsSpanned file span list → Some span.from ≡ Some first_position → span.to ≡ None
    → IsSortedFile file list
file_of_span file span list is begin end =
    let none : IsLeftAfter file span.to [] =
    subst (λ to. IsLeftAfter file to []) (sym end) refl in
    let left : IsLeftAfter file (Some first_position) (list ++ []) =
    subst (λ from. IsLeftAfter file from (list ++ [])) begin (is.goes [] none) in
    subst (λ taps. IsSortedFile file taps) (append-nil list) (record {
      read = whole_file file (length file) (list ++ [])
          (subst (λ taps. AreTapsBetween file 0 (length file) taps) (sym left.rest_is)
          left.between) (drop-length file);
      sorted = is.sorted [] none;
    })

whole_files : (files : List (List ℕ)) (spans : List FileSpan) (lists : List (List TapFields))
    → AreSpanned files spans lists → All (λ begin. begin ≡ Some first_position) (begins_of spans)
    → All (λ end. end ≡ None) (ends_of spans) → AreSortedFiles files lists
whole_files [] [] [] spanned begins ends =
    record { number = refl; each = λ k inside. absurd (omega (arith, inside)) }
whole_files [] [] (list ∷ lists) spanned begins ends = absurd spanned
whole_files [] (span ∷ spans) lists spanned begins ends = absurd spanned
whole_files (file ∷ files) [] lists spanned begins ends = absurd spanned
whole_files (file ∷ files) (span ∷ spans) [] spanned begins ends = absurd spanned
whole_files (file ∷ files) (span ∷ spans) (list ∷ lists) (first, more) begins ends =
    files_more file files list lists
    (file_of_span file span list first (begins zero None (omega arith)) (ends zero None (omega arith)))
    (whole_files files spans lists more (λ k d inside. begins (suc k) d (omega (arith, inside)))
    (λ k d inside. ends (suc k) d (omega (arith, inside))))

-- each of the spans is all of its file
pub whole_spans : (files : List (List ℕ)) (spans : List FileSpan) (lists : List (List TapFields))
    → AreSpanned files spans lists → All (λ (span : FileSpan). span.from ≡ first_position) spans
    → All (λ (span : FileSpan). span.to ≡ None) spans → AreSortedFiles files lists
whole_spans files spans lists spanned begins ends =
    whole_files files spans lists spanned
    (All-map (λ begin. begin ≡ Some first_position) (λ (span : FileSpan). Some span.from) spans
    (λ k d inside. ap Some (begins k d inside)))
    (All-map (λ end. end ≡ None) (λ (span : FileSpan). span.to) spans ends)

-- ---- some parts
abbrev IsPart : Fares → List (List ℕ) → PartView → Type 0
IsPart fares files part = IsPartOf fares files part.spans part.lists part.history

-- what each file has in them
abbrev lists_of : PartView → List PartView → List (List TapFields)
lists_of part [] = part.lists
lists_of part (next ∷ parts) = both part.lists (lists_of next parts)

-- the files have these taps in spans that begin there, and end where the files do
record AreJoined (files : List (List ℕ)) (begins : List (Option Position))
    (lists : List (List TapFields)) : Type 0 where
  spans : List FileSpan
  spanned : AreSpanned files spans lists
  begin : begins_of spans ≡ begins
  ends : All (λ end. end ≡ None) (ends_of spans)

joined_parts : (fares : Fares) (files : List (List ℕ)) (part : PartView) (parts : List PartView)
    → ArePartsOf fares files (part ∷ parts)
    → DoJoin (ends_of part.spans) (map (λ (part : PartView). part.spans) parts)
    → AreJoined files (begins_of part.spans) (lists_of part parts)
joined_parts fares files part [] are join = record {
  spans = part.spans;
  spanned = (All-head (IsPart fares files) part [] are).spanned;
  begin = refl;
  ends = join;
}
joined_parts fares files part (next ∷ parts) are (at, join) =
    let first = All-head (IsPart fares files) part (next ∷ parts) are in
    let rest = joined_parts fares files next parts
    (All-tail (IsPart fares files) part (next ∷ parts) are) join in
    let meet = at ∙ sym rest.begin in
    let (begin, end) = joined_ends part.spans rest.spans meet in
    record {
      spans = joined_spans part.spans rest.spans;
      spanned = spanned_both files part.spans rest.spans part.lists (lists_of next parts)
          first.spanned rest.spanned meet;
      begin = begin;
      ends = subst (λ ends. All (λ end. end ≡ None) ends) (sym end) rest.ends;
    }

all_begin : (spans : List FileSpan)
    → All (λ begin. begin ≡ Some first_position) (map (λ (span : FileSpan). Some first_position) spans)
all_begin [] = All-nil (λ begin. begin ≡ Some first_position)
all_begin (span ∷ spans) =
    All-cons (λ begin. begin ≡ Some first_position) (Some first_position)
    (map (λ (span : FileSpan). Some first_position) spans) refl (all_begin spans)

-- the files are sorted, and have the taps of all parts
sorted_parts : (fares : Fares) (files : List (List ℕ)) (part : PartView) (parts : List PartView)
    → ArePartsOf fares files (part ∷ parts)
    → AreWhole (map (λ (part : PartView). part.spans) (part ∷ parts))
    → AreSortedFiles files (lists_of part parts)
sorted_parts fares files part parts are (begins, join) =
    let all = joined_parts fares files part parts are join in
    whole_files files all.spans (lists_of part parts) all.spanned
    (subst (λ begins. All (λ begin. begin ≡ Some first_position) begins)
    (begins ∙ sym all.begin) (all_begin part.spans)) all.ends

added_none : (numbers : List ℕ) → added numbers [] ≡ numbers
added_none [] = refl
added_none (number ∷ numbers) = refl

counted_parts : (part : PartView) (parts : List PartView)
    → map length (lists_of part parts) ≡ numbers_of_parts (part ∷ parts)
counted_parts part [] = sym (added_none (map length part.lists))
counted_parts part (next ∷ parts) =
    joined_lengths part.lists (lists_of next parts)
    ∙ ap (added (map length part.lists)) (counted_parts next parts)

pub parts_ended : (fares : Fares) (files : List (List ℕ)) (parts : List PartView)
    → ArePartsOf fares files parts → AreWhole (map (λ (part : PartView). part.spans) parts)
    → ArePlainEnds files (map Posted (numbers_of_parts parts))
parts_ended fares files [] are whole = absurd whole
parts_ended fares files (part ∷ parts) are whole =
    subst (λ (ns : List ℕ). ArePlainEnds files (map Posted ns)) (counted_parts part parts)
    (plain_ends files (lists_of part parts) (sorted_parts fares files part parts are whole))

all_histories : (parts : List PartView)
    → flat_map (λ (entries : List Entry). entries) (map (λ (part : PartView). part.history) parts)
    ≡ flat_map (λ (part : PartView). part.history) parts
all_histories [] = refl
all_histories (part ∷ parts) = ap (λ es. part.history ++ es) (all_histories parts)

-- all taps of the parts are in canonical order, and the histories are theirs
record AreAllTaps (fares : Fares) (part : PartView) (parts : List PartView) : Type 0 where
  taps : List TapFields
  canonical : IsCanonical (all_of (lists_of part parts)) taps
  named : All HasName taps
  are : flat_map (λ (part : PartView). part.history) (part ∷ parts) ≡ posted fares taps

all_taps : (fares : Fares) (files : List (List ℕ)) (part : PartView) (parts : List PartView)
    → ArePartsOf fares files (part ∷ parts)
    → AreIncreasing (map (λ (part : PartView). part.history) (part ∷ parts))
    → AreAllTaps fares part parts
all_taps fares files part [] are increase =
    let first = All-head (IsPart fares files) part [] are in
    record {
      taps = first.taps;
      canonical = first.canonical;
      named = first.named;
      are = append-nil part.history ∙ first.posted_are;
    }
all_taps fares files part (next ∷ parts) are (below, increase) =
    let first = All-head (IsPart fares files) part (next ∷ parts) are in
    let more = all_taps fares files next parts
    (All-tail (IsPart fares files) part (next ∷ parts) are) increase in
    let taps = first.taps in
    let tokens : map token_of part.history ≡ map token_of_tap taps =
    ap (map token_of) first.posted_are ∙ tokens_posted fares [] taps in
    let others : map token_of (flat_map (λ (entries : List Entry). entries)
    (map (λ (p : PartView). p.history) (next ∷ parts))) ≡ map token_of_tap more.taps =
    ap (map token_of) (all_histories (next ∷ parts) ∙ more.are)
    ∙ tokens_posted fares [] more.taps in
    let lower : AreBelow (map token_of_tap taps) (map token_of_tap more.taps) =
    subst (λ ts. AreBelow ts (map token_of_tap more.taps)) tokens
    (subst (λ ts. AreBelow (map token_of part.history) ts) others below) in
    record {
      taps = taps ++ more.taps;
      canonical = canonical_both part.lists (lists_of next parts) taps more.taps first.canonical
          more.canonical first.named more.named lower;
      named = All-append HasName taps more.taps first.named more.named;
      are = (λ i. first.posted_are i ++ more.are i)
          ∙ sym (posted_below fares taps more.taps lower);
    }

-- the histories of the parts are that of settled taps
pub record AreSettledParts (fares : Fares) (files : List (List ℕ)) (parts : List PartView)
    : Type 0 where
  pub taps : List TapFields
  pub settled : AreSettledTaps files taps
  pub are : flat_map (λ (part : PartView). part.history) parts ≡ posted fares taps

pub settled_parts : (fares : Fares) (files : List (List ℕ)) (parts : List PartView)
    → ArePartsOf fares files parts → AreWhole (map (λ (part : PartView). part.spans) parts)
    → AreIncreasing (map (λ (part : PartView). part.history) parts)
    → AreSettledParts fares files parts
settled_parts fares files [] are whole increase = absurd whole
settled_parts fares files (part ∷ parts) are whole increase =
    let all = all_taps fares files part parts are increase in
    record {
      taps = all.taps;
      settled = settled_list files (lists_of part parts) all.taps
          (sorted_parts fares files part parts are whole) all.canonical all.named;
      are = all.are;
    }
