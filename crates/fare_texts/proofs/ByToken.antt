-- The lines of entries in order of token are the lines of each token.
use Rattle.std.proofs.Common.{◌≡◌, ℕ, ◌+◌, Bool, true, false, ◌||◌, List, [], ◌∷◌, ◌++◌, length}
use Rattle.std.proofs.Common.{map, refl, sym, ap, subst, ◌∙◌, append_assoc, ⊎_elim}
use Rattle.fare_texts.proofs.Increasing.{none_above, none_below, own_push, up_push, up_weaker}
use Rattle.fare_texts.specs.{ByToken.IsByToken, Ledger.AreLinesOfEach}
use Rattle.fare_texts.specs.LedgerLines.{AreLedgerLinesAfter, AreLedgerLines, IsLedgerLine}
use Rattle.fare_texts.specs.{LedgerLines.reason_after, Lines.AreLinesAlong}
use Rattle.fare_texts.specs.Lines.{AreUpTo, IsLineAfter, Nondecreasing, NondecreasingFrom}
use Rattle.histories.proofs.IncreasingLemmas.{increasing-only, below_all}
use Rattle.histories.proofs.OwnEntries.{own-append, own_none, own_other, own_same}
use Rattle.histories.specs.{Entry.own, Increasing.IsIncreasing, Increasing.increasing}
use Rattle.histories.specs.{SumsByKey.token_of, SumsByKey.tokens, declared.entry.Entry.Entry}
use Rattle.std.proofs.{Math.Bool.or_self_left, lemmas.Bool.cases_Bool}
use Rattle.std.proofs.lemmas.List.Sorted.{IsPermutation-map, list_any-IsPermutation}
use Rattle.std.specs.{List.Sorted.IsStrictlySortedBy, Ordering.eq_by_cmp}
use Rattle.tap_views.proofs.TokenLemmas.{same_token, token_eq-refl, token_eq-sym, token_cmp-total}
use Rattle.tap_views.proofs.TokenLemmas.{token_cmp-ties, among}
use Rattle.tap_views.proofs.TokensUp.{up_apart, up_itself}
use Rattle.tap_views.specs.Token.{token_cmp, token_eq}
use Rattle.tap_views.specs.{TokenOrder.IsUpTo, declared.token.Token.Token}
use Rattle.tariffs.specs.Fares.{Fares}

abbrev ties : Token → Token → Bool
ties key token = eq_by_cmp token_cmp key token

-- What the text of entries is that follow those before, while the lines of a token are written:
-- first the other lines of that token, and then those of each later token.
record RestOfToken (fares : Fares) (whole : List Entry) (token : Token) (before rest : List Entry)
    (text : List ℕ) : Type 0 where
  pub own_lines : List ℕ
  pub of_own : AreLedgerLinesAfter fares token (own token before) (own token rest) own_lines
  pub others : List Token
  pub increases : IsStrictlySortedBy token_cmp (token ∷ others)
  pub members : (key : Token)
      → (ties key token || among others key) ≡ (ties key token || among (map token_of rest) key)
  pub other_lines : List ℕ
  pub of_others : AreLinesOfEach fares whole others other_lines
  pub shown : text ≡ own_lines ++ other_lines

module _ (fares : Fares) (whole before : List Entry) (entry : Entry) (rest : List Entry)
    (line more text : List ℕ)
    (is : whole ≡ before ++ entry ∷ rest) (explained : IsLineAfter fares before entry line)
    (shown : text
    ≡ line ++ more) where
  -- the entry is of the token whose lines are written
  same_case : (token : Token) → token_eq entry.token token ≡ true
      → RestOfToken fares whole token (before ++ entry ∷ []) rest more
      → RestOfToken fares whole token before (entry ∷ rest) text
  same_case token here g =
      let same : entry.token ≡ token = same_token entry.token token here in
      record {
        own_lines = line ++ g.own_lines;
        of_own = subst (λ (es : List Entry).
            AreLedgerLinesAfter fares token (own token before) es (line ++ g.own_lines))
            (sym (own_same token entry rest here)) (
              line,
              g.own_lines,
              subst (λ (t : Token).
                  IsLedgerLine fares t (length (own t before) + 1) entry
                  (reason_after fares t (own t before) entry) line) same explained,
              subst (λ (es : List Entry). AreLedgerLinesAfter fares token es (own token rest)
                  g.own_lines)
                  (own_push token before entry here) g.of_own,
              refl,
            );
        others = g.others;
        increases = g.increases;
        members = λ key.
            g.members key ∙ sym (or_self_left (ties key token) (among (map token_of rest) key))
            ∙ ap (λ (t : Token). ties key token || (ties key t || among (map token_of rest) key))
            (sym same);
        other_lines = g.other_lines;
        of_others = g.of_others;
        shown = shown ∙ ap (λ t. line ++ t) g.shown
            ∙ sym (append_assoc line g.own_lines g.other_lines);
      }

  -- the entry is the first of its token: all lines of its token
  all_lines : own entry.token before ≡ []
      → (g : RestOfToken fares whole entry.token (before ++ entry ∷ []) rest more)
      → AreLedgerLines fares entry.token (own entry.token whole) (line ++ g.own_lines)
  all_lines none g =
      let here = token_eq-refl entry.token in
      let all : own entry.token whole ≡ entry ∷ own entry.token rest =
      ap (own entry.token) is ∙ own-append entry.token before (entry ∷ rest)
      ∙ ap (λ (es : List Entry). es ++ own entry.token (entry ∷ rest)) none
      ∙ own_same entry.token entry rest here in
      let pushed : own entry.token (before ++ entry ∷ []) ≡ entry ∷ [] =
      own_push entry.token before entry here ∙ ap (λ (es : List Entry). es ++ entry ∷ []) none in
      subst (λ (es : List Entry). AreLedgerLinesAfter fares entry.token [] es (line ++ g.own_lines))
      (sym all) (
        line,
        g.own_lines,
        subst (λ (es : List Entry).
            IsLedgerLine fares entry.token (length es + 1) entry
            (reason_after fares entry.token es entry) line) none explained,
        subst (λ (es : List Entry).
            AreLedgerLinesAfter fares entry.token es (own entry.token rest) g.own_lines) pushed
            g.of_own,
        refl,
      )

  -- the entry is the first of its token: its token's lines, and those of each later token
  each_lines : own entry.token before ≡ []
      → (g : RestOfToken fares whole entry.token (before ++ entry ∷ []) rest more)
      → AreLinesOfEach fares whole (entry.token ∷ g.others) text
  each_lines none g = (
    line ++ g.own_lines,
    g.other_lines,
    all_lines none g,
    g.of_others,
    shown ∙ ap (λ t. line ++ t) g.shown ∙ sym (append_assoc line g.own_lines g.other_lines),
  )

  -- the entry is of a later token than the one whose lines were written
  next_case : (token : Token) → AreUpTo before token → IsUpTo token entry.token
      → NondecreasingFrom entry.token rest → token_eq entry.token token ≡ false
      → token_eq token entry.token ≡ false
      → RestOfToken fares whole entry.token (before ++ entry ∷ []) rest more
      → RestOfToken fares whole token before (entry ∷ rest) text
  unfolding IsStrictlySortedBy
  next_case token up to nondecreasing apart beyond g =
      let less = up_apart token entry.token to apart in
      record {
        own_lines = [];
        of_own = subst
            (λ (es : List Entry). AreLedgerLinesAfter fares token (own token before) es [])
            (sym (own_other token entry rest apart
            ∙ none_above token entry.token rest to apart nondecreasing))
            refl;
        others = entry.token ∷ g.others;
        increases = (
          (
            less,
            below_all token_cmp-total token_cmp-ties token entry.token g.others less
                g.increases.0,
          ),
          g.increases,
        );
        members = λ key. ap (λ (b : Bool). ties key token || b) (g.members key);
        other_lines = text;
        of_others = each_lines (none_below before token entry.token up to beyond) g;
        shown = refl;
      }

no_more : (fares : Fares) (whole : List Entry) (token : Token) (before : List Entry) (text : List ℕ)
    → text ≡ [] → RestOfToken fares whole token before [] text
unfolding IsStrictlySortedBy own
no_more fares whole token before text none = record {
  own_lines = [];
  of_own = refl;
  others = [];
  increases = (tt, tt);
  members = λ key. refl;
  other_lines = [];
  of_others = refl;
  shown = none;
}

rest_of_token : (fares : Fares) (whole : List Entry) (token : Token) (before rest : List Entry)
    (text : List ℕ) → whole ≡ before ++ rest → AreUpTo before token → NondecreasingFrom token rest
    → AreLinesAlong fares before rest text → RestOfToken fares whole token before rest text
rest_of_token fares whole token before [] text is up nondecreasing none =
    no_more fares whole token before text none
rest_of_token fares whole token before (entry ∷ rest) text is up nondecreasing
    (line, more, explained, along, shown) =
    let longer : whole ≡ (before ++ entry ∷ []) ++ rest =
    is ∙ sym (append_assoc before (entry ∷ []) rest) in
    ⊎_elim
    (λ (here : token_eq entry.token token ≡ true).
    let same : entry.token ≡ token = same_token entry.token token here in
    same_case fares whole before entry rest line more text is explained shown token here
    (rest_of_token fares whole token (before ++ entry ∷ []) rest more longer
    (up_push before entry token up
    (subst (λ (t : Token). IsUpTo t token) (sym same) (up_itself token)))
    (subst (λ (t : Token). NondecreasingFrom t rest) same nondecreasing.1) along))
    (λ (apart : token_eq entry.token token ≡ false).
    next_case fares whole before entry rest line more text is explained shown token up
    nondecreasing.0
    nondecreasing.1
    apart (token_eq-sym token entry.token ∙ apart)
    (rest_of_token fares whole entry.token (before ++ entry ∷ []) rest more longer
    (up_push before entry entry.token (up_weaker before token entry.token up nondecreasing.0)
    (up_itself entry.token)) nondecreasing.1 along))
    (cases_Bool (token_eq entry.token token))

-- the lines along entries in order of token are those of each token, rising
each_token : (fares : Fares) (entries : List Entry) (text : List ℕ) → Nondecreasing entries
    → AreLinesAlong fares [] entries text
    → (order : List Token) × IsIncreasing token_cmp (map token_of entries) order
    × AreLinesOfEach fares entries order text
unfolding IsStrictlySortedBy
each_token fares [] text nondecreasing none =
    ([], record { increases = tt; same = λ key. refl }, none)
each_token fares (entry ∷ rest) text nondecreasing (line, more, explained, along, shown) =
    let g = rest_of_token fares (entry ∷ rest) entry.token (entry ∷ []) rest more refl
    (up_itself entry.token, tt) nondecreasing along in (
      entry.token ∷ g.others,
      record { increases = g.increases; same = g.members },
      each_lines fares (entry ∷ rest) [] entry rest line more text refl explained shown
          (own_none entry.token) g,
    )

-- the same tokens' lines, if each token has the same entries
pub each_same : (fares : Fares) (entries others : List Entry) (order : List Token) (text : List ℕ)
    → ((token : Token) → own token entries ≡ own token others)
    → AreLinesOfEach fares entries order text → AreLinesOfEach fares others order text
each_same fares entries others [] text same none = none
each_same fares entries others (token ∷ order) text same (lines, rest, are, each, shown) = (
  lines,
  rest,
  subst (λ (es : List Entry). AreLedgerLines fares token es lines) (same token) are,
  each_same fares entries others order rest same each,
  shown,
)

pub every_token : (fares : Fares) (entries list : List Entry) (text : List ℕ)
    → IsByToken entries list
    → AreLinesAlong fares [] list text
    → AreLinesOfEach fares entries (tokens entries) text
unfolding tokens
every_token fares entries list text is along =
    let (order, risen, each) = each_token fares list text is.nondecreasing along in
    let same : order ≡ increasing token_cmp (map token_of entries) =
    increasing-only token_cmp-total token_cmp-ties (map token_of entries) order (record {
      increases = risen.increases;
      same = λ key. risen.same key
          ∙ sym (list_any-IsPermutation (eq_by_cmp token_cmp key) (map token_of entries)
          (map token_of list) (IsPermutation-map token_of entries list is.moved));
    }) in
    subst (λ (ts : List Token). AreLinesOfEach fares entries ts text) same
    (each_same fares list entries order text is.kept each)
