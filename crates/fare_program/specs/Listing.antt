-- The text of a listing: what it says of each tap, live, stale or unknown.
use Rattle.fare_program.specs.declared.listing.{ListCounts.ListCounts, Word.Word}
use Rattle.fare_program.specs.declared.listing.Word.TheVariants.{Live, Stale, Unknown}
use Rattle.hex.specs.Hex.{encode_lower}
use Rattle.std.specs.{Cmp.Lexicographic.slice_cmp, List.list_all, Map.lookup, Ordering.is_eq}
use Rattle.std.specs.{Ordering.nat_cmp, Prelude.◌≡◌, Prelude.◌+◌, Prelude.◌&&◌, Str.bytes_eq}
use Rattle.std.specs.Prelude.{ℕ, Bool, true, if◌then◌else◌, List, [], ◌∷◌, ◌++◌, Option, None, Some}
use Rattle.std.specs.Prelude.{codes, decimal, filter, fold, is_none, is_some, map, nat_lt}
use Rattle.tap_views.specs.Files.{IsReadAs, taps_of_batches}
use Rattle.tap_views.specs.{Layout.Tap, Layout.num, Names.fault_name}
use Rattle.tap_views.specs.declared.fault.LayoutFault.{LayoutFault}
use Rattle.tariffs.specs.Fares.{Fares, mode_at}

-- A tap of a listing, and whether its validator is known.
pub record ListedTap : Type 0 where
  pub tap : Tap
  pub known : Bool

-- whether each known tap of this token is before this moment
abbrev pub are_before : List ListedTap → List ℕ → ℕ → Bool
are_before taps token moment = list_all (λ t. nat_lt (num t.tap.moment) moment)
    (filter (λ t. t.known && bytes_eq t.tap.token token) taps)

-- What is said of a tap after others, in any order: a known tap is live if it is later than every
-- known tap of its token among them.
abbrev pub liveness_of : List ListedTap → Tap → Bool → Word
liveness_of before tap known =
    if known then (if are_before before tap.token (num tap.moment) then Live else Stale) else Unknown

-- the counts with one tap more, of which the listing says this
abbrev pub counted : ListCounts → Word → ListCounts
counted counts Live = record counts { taps = counts.taps + 1; live = counts.live + 1 }
counted counts Stale = record counts { taps = counts.taps + 1; stale = counts.stale + 1 }
counted counts Unknown = record counts { taps = counts.taps + 1; unknown = counts.unknown + 1 }

-- the other three add up to all taps
abbrev pub AddsUp : ListCounts → Type 0
AddsUp counts = counts.taps ≡ counts.live + counts.stale + counts.unknown

-- how many taps there are of each liveness, of those that were listed, the last one first
abbrev pub counts_of : List ListedTap → ListCounts
counts_of [] = record { taps = 0; live = 0; stale = 0; unknown = 0 }
counts_of (listed ∷ taps) = counted (counts_of taps) (liveness_of taps listed.tap listed.known)

-- What a listing keeps: the last moment of each token, and the counts.
pub record KeptListing : Type 0 where
  pub last : List (List ℕ × ℕ)
  pub counts : ListCounts

-- the last moment that is kept of the token, if there is one
abbrev pub last_of : List (List ℕ × ℕ) → List ℕ → Option ℕ
last_of last token = lookup (λ k. is_eq (slice_cmp nat_cmp token k)) last

-- whether the moment is after the last one, if there is one
abbrev pub is_after : Option ℕ → ℕ → Bool
is_after None moment = true
is_after (Some last) moment = nat_lt last moment

-- A moment is later than the last one that is kept of a token if it is later than each known tap of
-- that token.
abbrev pub HasLast : List (List ℕ × ℕ) → List ListedTap → Type 0
HasLast last taps = (token : List ℕ) (moment : ℕ)
    → is_after (last_of last token) moment ≡ are_before taps token moment

-- the listing is of these taps, the last one first
pub record IsListingOf (kept : KeptListing) (taps : List ListedTap) : Type 0 where
  pub last : HasLast kept.last taps
  pub counts : kept.counts ≡ counts_of taps

-- Without a table every validator is known; with one, those that have a mode.
abbrev pub is_known : Option Fares → Tap → Bool
is_known None tap = true
is_known (Some fares) tap = is_some (mode_at fares (num tap.moment) (num tap.validator))

-- the liveness as it is printed
abbrev pub word_text : Word → List ℕ
word_text Live = codes "live"
word_text Stale = codes "stale"
word_text Unknown = codes "unknown"

-- the number of the upload and of the tap in it, token, validator, moment and liveness
unfoldable pub tap_line : ℕ → ℕ → Tap → Word → List ℕ
tap_line upload number tap liveness = decimal upload ++ (codes " " ++ (decimal number ++ (codes " "
    ++ (encode_lower tap.token ++ (codes " " ++ (decimal (num tap.validator) ++ (codes " "
    ++ (decimal (num tap.moment) ++ (codes " " ++ (word_text liveness ++ codes "\n"))))))))))

-- the number of the upload, the offset of the batch that was refused, and the name of its fault
unfoldable pub refused_line : ℕ → ℕ → LayoutFault → List ℕ
refused_line upload offset fault = decimal upload ++ (codes " refused " ++ (decimal offset
    ++ (codes " " ++ (fault_name fault ++ codes "\n"))))

-- `taps 5 live 3 stale 1 unknown 1`
unfoldable pub counts_line : ListCounts → List ℕ
counts_line counts = codes "taps " ++ (decimal counts.taps ++ (codes " live "
    ++ (decimal counts.live ++ (codes " stale " ++ (decimal counts.stale ++ (codes " unknown "
    ++ (decimal counts.unknown ++ codes "\n")))))))

-- What was listed so far: the taps, the last one first, the number of the upload and of its next tap,
-- whether no layout fault ended an upload, and the lines.
pub record Listed : Type 0 where
  pub taps : List ListedTap
  pub upload : ℕ
  pub number : ℕ
  pub is_clean : Bool
  pub text : List ℕ

-- nothing was listed
abbrev pub nothing : Listed
nothing = record {
  taps = [];
  upload = 0;
  number = 0;
  is_clean = true;
  text = [];
}

-- one tap more
abbrev pub with_tap : Option Fares → Listed → Tap → Listed
with_tap fares listed tap = record listed {
  taps = record { tap = tap; known = is_known fares tap } ∷ listed.taps;
  number = listed.number + 1;
  text = listed.text
      ++ tap_line listed.upload listed.number tap
      (liveness_of listed.taps tap (is_known fares tap));
}

-- the line of a layout fault, if there is one
abbrev pub fault_lines : ℕ → Option (ℕ × LayoutFault) → List ℕ
fault_lines upload None = []
fault_lines upload (Some (offset, fault)) = refused_line upload offset fault

-- the end of an upload, with its layout fault, if it has one
abbrev pub with_end : Listed → Option (ℕ × LayoutFault) → Listed
with_end listed fault = record listed {
  upload = listed.upload + 1;
  number = 0;
  is_clean = listed.is_clean && is_none fault;
  text = listed.text ++ fault_lines listed.upload fault;
}

-- a reading of a file
pub record Reading : Type 0 where
  pub file : List ℕ
  pub batches : List (List Tap)
  pub fault : Option (ℕ × LayoutFault)
  pub read : IsReadAs file batches fault

-- one upload more: the taps of all its batches, and its layout fault
abbrev pub with_upload : Option Fares → Listed → Reading → Listed
with_upload fares listed reading =
    with_end (fold (with_tap fares) listed (taps_of_batches reading.batches)) reading.fault

-- The text lists the files: the lines of each in their order, of all their batches up to the first
-- layout fault, and then the counts. It is clean if no file has a layout fault.
pub record IsListing (fares : Option Fares) (files : List (List ℕ)) (text : List ℕ) (clean : Bool)
    : Type 0 where
  pub readings : List Reading
  pub of_files : map (λ reading. reading.file) readings ≡ files
  pub all : Listed
  pub listed : all ≡ fold (with_upload fares) nothing readings
  pub lines : text ≡ all.text ++ counts_line (counts_of all.taps)
  pub is_clean : clean ≡ all.is_clean
