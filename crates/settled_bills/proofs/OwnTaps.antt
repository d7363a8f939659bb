-- The taps of one token, collected from sorted files.
use Rattle.std.proofs.Common.{◌≡◌, ℕ, zero, suc, ◌+◌, ◌<◌, Bool, true, false, List, [], ◌∷◌, ◌++◌}
use Rattle.std.proofs.Common.{All, length, map, take, get_or, cond, refl, sym, ap, subst, ◌∙◌}
use Rattle.std.proofs.Common.{append-nil, option_map, Option, None, Some, arith, length-take-le}
use Rattle.settlement.proofs.{Ranges.has_token_bytes, SettledOrders.own_settled}
use Rattle.settlement.specs.Posted.{HasName, only, token_of_tap}
use Rattle.settlement.specs.SettledTaps.{AreSettledTapsOf}
use Rattle.settled_bills.proofs.{Counted.counted_ends, Parts.nondecreasing_between}
use Rattle.settled_bills.proofs.SettledFiles.{file_taps, files_more}
use Rattle.settled_bills.specs.declared.own_by_threads.OwnTaps.{OwnTaps}
use Rattle.settled_bills.specs.inside.OwnTaps.{AreOwnOf, IsOwnOf, IsOwnPushed, own_of}
use Rattle.settled_bills.specs.inside.Taken.{AreFollowing}
use Rattle.sorted_taps.proofs.{Files.known_number, Standing.positioned_further}
use Rattle.sorted_taps.proofs.{Standing.sorted_at_end, Taking.all_of}
use Rattle.sorted_taps.specs.{Checked.AreCountedFiles, Checked.IsFirstFault, Merges.AreSortedFiles}
use Rattle.sorted_taps.specs.Readers.{ahead, IsPassed, IsPositionedIn}
use Rattle.sorted_taps.specs.Sorted.{IsSortedFault, IsSortedFile}
use Rattle.sorted_taps.specs.declared.{fault.FileFault.FileFault, reader.TapReader.TapReader}
use Rattle.std.proofs.lemmas.List.{get_or-take, map-append, take_more, Concat.flat_map-append}
use Rattle.std.proofs.lemmas.List.Elements.{All-append, All-cons, All-nil, filter-append}
use Rattle.std.proofs.lemmas.List.Elements.{All-weaker}
use Rattle.std.proofs.lemmas.Option.{same_Some, slice_get-get_or, slice_get-map}
use Rattle.std.specs.Prelude.{slice_get}
use Rattle.tap_parts.specs.Canonical.{HasTokenBytes, IsCanonical}
use Rattle.tap_views.proofs.TokensUp.{up_both}
use Rattle.tap_views.specs.{Token.token_eq, TokenOrder.IsUpTo, UploadEnds.ArePlainEnds}
use Rattle.tap_views.specs.declared.{encoder.TapFields.TapFields, token.Token.Token}
use Rattle.tap_views.specs.declared.upload_end.UploadEnd.TheVariants.{Posted}

only_both : (token : Option Token) (xs ys : List TapFields)
    → own_of token (xs ++ ys) ≡ own_of token xs ++ own_of token ys
only_both None xs ys = refl
only_both (Some token) xs ys =
    filter-append (λ (tap : TapFields). token_eq (token_of_tap tap) token) xs ys

own_of_none : (token : Option Token) → own_of token [] ≡ []
own_of_none None = refl
own_of_none (Some token) = refl

only_one : (token : Token) (tap : TapFields) (b : Bool) → token_eq (token_of_tap tap) token ≡ b
    → only token (tap ∷ []) ≡ cond b (tap ∷ []) []
only_one token tap b is = ap (λ (x : Bool). cond x (tap ∷ []) []) is

pub not_own : (own : Option Token) (token : Token) (tap : TapFields) (taps : List TapFields)
    → own ≡ Some token → token_eq (token_of_tap tap) token ≡ false → HasName tap
    → IsOwnPushed own tap taps taps
not_own own token tap taps some apart named = record {
  named = named;
  pushed = sym (append-nil taps) ∙ ap (λ (ts : List TapFields). taps ++ ts)
      (sym (ap (λ (t : Option Token). own_of t (tap ∷ [])) some
      ∙ only_one token tap false apart));
}

pub is_own : (own : Option Token) (token : Token) (tap : TapFields) (old new : List TapFields)
    → own ≡ Some token → token_eq (token_of_tap tap) token ≡ true → HasName tap
    → new ≡ old ++ tap ∷ [] → IsOwnPushed own tap old new
is_own own token tap old new some same named more = record {
  named = named;
  pushed = more ∙ ap (λ (ts : List TapFields). old ++ ts)
      (sym (ap (λ (t : Option Token). own_of t (tap ∷ [])) some
      ∙ only_one token tap true same));
}

-- these are the token's taps among those that the reader has passed
pub record IsOwnRead (token : Option Token) (all : List ℕ) (own : List TapFields)
    (reader : TapReader) : Type 0 where
  pub passed : List TapFields
  pub holds : IsPositionedIn all 0 passed reader
  pub named : All HasName passed
  pub are : own ≡ own_of token passed

pub none_read : (token : Option Token) (all : List ℕ) (taps : List TapFields) (reader : TapReader)
    → taps ≡ [] → IsPositionedIn all 0 [] reader → IsOwnRead token all taps reader
none_read token all taps reader none holds = record {
  passed = [];
  holds = holds;
  named = All-nil HasName;
  are = none ∙ sym (own_of_none token);
}

pub one_read : (token : Option Token) (all : List ℕ) (own more : List TapFields) (tap : TapFields)
    (rest : List TapFields) (was is : TapReader) → ahead was ≡ tap ∷ rest
    → IsOwnPushed token tap own more → IsOwnRead token all own was
    → IsPassed all was (take 1 (ahead was)) is → IsOwnRead token all more is
one_read token all own more tap rest was is stood one read step = record {
  passed = read.passed ++ tap ∷ [];
  holds = positioned_further all 0 read.passed (tap ∷ []) was is read.holds
      (subst (λ (run : List TapFields). IsPassed all was run is) (ap (take 1) stood) step);
  named = All-append HasName read.passed (tap ∷ []) read.named
      (All-cons HasName tap [] one.named (All-nil HasName));
  are = one.pushed ∙ ap (λ (ts : List TapFields). ts ++ own_of token (tap ∷ [])) read.are
      ∙ sym (only_both token read.passed (tap ∷ []));
}

pub whole_read : (token : Option Token) (all : List ℕ) (own : OwnTaps) (reader : TapReader)
    → IsOwnRead token all own.taps.items reader → ahead reader ≡ []
    → own.number ≡ reader.passed → IsOwnOf token all own
whole_read token all own reader read none counted = record {
  list = read.passed;
  of_file = sorted_at_end all read.passed reader read.holds none;
  named = read.named;
  are = read.are;
  counted = counted ∙ read.holds.1;
}

-- ---- one file more
sorted_end : (files : List (List ℕ)) (file : List ℕ) (lists : List (List TapFields))
    (list : List TapFields) → AreSortedFiles files lists → IsSortedFile file list
    → AreSortedFiles (files ++ file ∷ []) (lists ++ list ∷ [])
sorted_end [] file [] list sorted is = files_more file [] list [] is sorted
sorted_end [] file (l ∷ lists) list sorted is =
    absurd (let number = sorted.number in omega (arith, number))
sorted_end (f ∷ files) file [] list sorted is =
    absurd (let number = sorted.number in omega (arith, number))
sorted_end (f ∷ files) file (l ∷ lists) list sorted is =
    let number = sorted.number in
    files_more f (files ++ file ∷ []) l (lists ++ list ∷ []) (sorted.each zero (omega arith))
    (sorted_end files file lists list (record {
      number = omega (arith, number);
      each = λ k inside. sorted.each (suc k) (omega (arith, inside));
    }) is)

pub none_so_far : (token : Option Token) → AreOwnOf token [] [] []
none_so_far token = record {
  lists = [];
  sorted = record { number = refl; each = λ k inside. absurd (omega (arith, inside)) };
  named = All-nil HasName;
  are = sym (own_of_none token);
  counted = refl;
}

pub one_file_more : (token : Option Token) (files : List (List ℕ)) (count : ℕ)
    (own next : List TapFields) (numbers more : List ℕ) (made : OwnTaps) → count < length files
    → AreOwnOf token (take count files) own numbers → IsOwnOf token (get_or files count []) made
    → next ≡ own ++ made.taps.items → more ≡ numbers ++ made.number ∷ []
    → AreOwnOf token (take (count + 1) files) next more
one_file_more token files count own next numbers more made inside so_far is added counted =
    let lists = so_far.lists in
    let joined : all_of (lists ++ is.list ∷ []) ≡ all_of lists ++ is.list =
    flat_map-append (λ (list : List TapFields). list) lists (is.list ∷ [])
    ∙ ap (λ (ts : List TapFields). all_of lists ++ ts) (append-nil is.list) in
    subst (λ (fs : List (List ℕ)). AreOwnOf token fs next more)
    (sym (take_more files count [] inside)) (record {
      lists = lists ++ is.list ∷ [];
      sorted = sorted_end (take count files) (get_or files count []) lists is.list so_far.sorted
          is.of_file;
      named = subst (λ (ts : List TapFields). All HasName ts) (sym joined)
          (All-append HasName (all_of lists) is.list so_far.named is.named);
      are = added ∙ (λ i. so_far.are i ++ is.are i)
          ∙ sym (ap (own_of token) joined ∙ only_both token (all_of lists) is.list);
      counted = counted ∙ (λ i. so_far.counted i ++ is.counted i ∷ [])
          ∙ sym (map-append length lists (is.list ∷ []));
    })

-- the fault of a file behind good ones is the first
pub first_refused : (token : Option Token) (files : List (List ℕ)) (fault : FileFault)
    (own : List TapFields) (numbers : List ℕ)
    → AreOwnOf token (take fault.index files) own numbers → fault.index < length files
    → IsSortedFault (get_or files fault.index []) fault.fault → IsFirstFault files fault
first_refused token files fault own numbers are inside is =
    let long = length-take-le fault.index files (omega (arith, inside)) in
    record {
      within = inside;
      earlier = λ k less. (
        get_or are.lists k [],
        subst (λ (file : List ℕ). IsSortedFile file (get_or are.lists k []))
            (get_or-take fault.index files k [] less)
            (are.sorted.each k (omega (arith, long, less))),
      );
      is_fault = is;
    }

pub own_counted : (token : Option Token) (files : List (List ℕ)) (own : List TapFields)
    (numbers : List ℕ) → AreOwnOf token files own numbers → AreCountedFiles files numbers
own_counted token files own numbers are =
    record { lists = are.lists; sorted = are.sorted; counted = are.counted }

pub own_ends : (token : Option Token) (files : List (List ℕ)) (own : List TapFields) (numbers : List ℕ)
    → AreOwnOf token files own numbers → ArePlainEnds files (map Posted numbers)
own_ends token files own numbers are =
    counted_ends files numbers (own_counted token files own numbers are)

-- in canonical order they are the token's settled taps
pub own_in_order : (token : Token) (files : List (List ℕ)) (own list : List TapFields)
    (numbers : List ℕ) → AreOwnOf (Some token) files own numbers → IsCanonical own list
    → AreSettledTapsOf files token list
own_in_order token files own list numbers are canonical =
    let of = file_taps files are.lists are.sorted in
    own_settled files token own list of.taps of.each (are.are ∙ ap (only token) (sym of.fields))
    (subst (λ (ts : List TapFields). All HasTokenBytes ts) (sym of.fields)
    (All-weaker HasName HasTokenBytes (λ tap name. has_token_bytes tap name.named)
    (all_of are.lists) are.named)) canonical

-- the bytes of one of the files, as a slice gives them
pub known_slice : {X : Type 0} (known : X → Option (List ℕ)) (files : List X) (all : List (List ℕ))
    (k : ℕ) → map known files ≡ map Some all → k < length files
    → slice_get (map known files) k ≡ Some (Some (get_or all k []))
known_slice known files all k are within =
    let number = known_number known files all are in
    ap (λ (os : List (Option (List ℕ))). slice_get os k) are
    ∙ slice_get-map Some all k
    ∙ ap (option_map Some) (slice_get-get_or all k [] (omega (arith, number, within)))

-- the bytes of one of the files, as a place of the files' bytes has them
pub known_there : {X : Type 0} (known : X → Option (List ℕ)) (files : List X) (k : ℕ) (file : X)
    (bytes : Option (List ℕ)) → k < length files → file ≡ get_or files k file
    → slice_get (map known files) k ≡ Some bytes → known file ≡ bytes
known_there known files k file bytes within is there =
    same_Some (known file) bytes (sym (slice_get-map known files k
    ∙ ap (option_map known) (slice_get-get_or files k file within ∙ ap Some (sym is))) ∙ there)

-- tokens that do not fall, from one to the same
pub all_its : (token : Token) (taps : List TapFields) → AreFollowing token taps token
    → All (λ tap. token_of_tap tap ≡ token) taps
all_its token taps are =
    let (least, most, up) = nondecreasing_between token taps are.nondecreasing in λ k d inside.
    up_both (token_of_tap (get_or taps k d)) token
    (subst (λ (t : Token). IsUpTo (token_of_tap (get_or taps k d)) t) (sym are.is_last)
    (most k d inside)) (least k d inside)
