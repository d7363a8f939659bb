-- The lines of each token, one token after another, are those of a ledger.
use Rattle.std.proofs.Common.{◌≡◌, ℕ, ◌+◌, ◌≤◌, ◌^◌, List, [], ◌∷◌, ◌++◌, length, length-append}
use Rattle.std.proofs.Common.{flat_map, map, refl, sym, ap, subst, ◌∙◌, append_assoc, append-nil}
use Rattle.std.proofs.Common.{arith, Option, Some, None, codes}
use Rattle.fare_texts.specs.Ledger.{AreLinesOfEach, IsLedgerOver, ledger_tokens}
use Rattle.fare_texts.specs.LedgerLines.{AreLedgerLinesAfter, IsLedgerLine, head_text, reason_after}
use Rattle.histories.proofs.{IncreasingLemmas.increasing-is, OwnEntries.own-append}
use Rattle.histories.specs.{Entry.own, History.IsLegal, SumsByKey.token_of, SumsByKey.tokens}
use Rattle.histories.specs.declared.entry.Entry.{Entry}
use Rattle.laws.proofs.Lacking.{line_ends_once}
use Rattle.laws.proofs.Owned.{AllOf, all_parts, own_all, own_below, own_each, replied_same}
use Rattle.laws.specs.Written.{AreShort, CanBePrinted, HasLetterNames, reported_entries}
use Rattle.ledger_check.proofs.LineLemmas.{lacks-tested, lines-line}
use Rattle.ledger_check.proofs.TokenOrder.{less_number}
use Rattle.ledger_check.specs.Ledger.{AreNext, IsLedgerOf, IsNextLine, IsNext, IsPostable}
use Rattle.ledger_check.specs.{Ledger.token_number, Lines.lines_of}
use Rattle.std.proofs.lemmas.List.Elements.{All-from_recursion}
use Rattle.std.specs.List.{AllByRecursion, Sorted.IsStrictlySortedBy}
use Rattle.std.specs.declared.cmp.Ordering.TheVariants.{Less}
use Rattle.tap_views.proofs.Lists.{each-append, each-weaker}
use Rattle.tap_views.proofs.TokenLemmas.{token_cmp-total, token_cmp-ties}
use Rattle.tap_views.specs.{Token.token_cmp, declared.token.Token.Token}
use Rattle.tariffs.specs.Fares.{Fares}

abbrev Short : List ℕ → Type 0
Short line = length line ≤ 255

-- the text is, whole, lines that the entries have after those before, if none is too long
record Reported (fares : Fares) (done entries : List Entry) (text : List ℕ) : Type 0 where
  pub lines : List (List ℕ)
  pub cut : (more : List ℕ) → lines_of (text ++ more) ≡ lines ++ lines_of more
  pub are : AllByRecursion Short lines → AreNext fares done entries lines

next_append : (fares : Fares) (done one two : List Entry) (lines more : List (List ℕ))
    → AreNext fares done one lines → AreNext fares (done ++ one) two more
    → AreNext fares done (one ++ two) (lines ++ more)
next_append fares done [] two [] more first then =
    subst (λ (es : List Entry). AreNext fares es two more) (append-nil done) then
next_append fares done [] two (l ∷ lines) more first then = absurd first
next_append fares done (e ∷ one) two [] more first then = absurd first
next_append fares done (e ∷ one) two (l ∷ lines) more first then = (
  first.0,
  next_append fares (done ++ e ∷ []) one two lines more first.1
      (subst (λ (es : List Entry). AreNext fares es two more) (sym (append_assoc done (e ∷ []) one))
      then),
)

-- no entries have no lines
reported_none : (fares : Fares) (done : List Entry) (text : List ℕ) → text ≡ []
    → Reported fares done [] text
reported_none fares done text empty = record {
  lines = [];
  cut = λ more. ap (λ (t : List ℕ). lines_of (t ++ more)) empty;
  are = λ short. tt;
}

-- entries of tokens below this one, which can all be posted
abbrev AreBelow : Token → List Entry → Type 0
AreBelow token entries =
    AllByRecursion (λ entry. IsPostable entry × (token_cmp entry.token token ≡ Less)) entries

-- what is known of the entries of one token
record IsOwn (fares : Fares) (token : Token) (entries : List Entry) : Type 0 where
  pub of : AllOf token entries
  pub postable : AllByRecursion IsPostable entries
  pub legal : IsLegal fares entries

module _ (fares : Fares) (letters : HasLetterNames fares) (token : Token)
    (done : List Entry) (below : AreBelow token done) where
  nondecreasing : (earlier : List Entry) (entry : Entry) → AllOf token earlier → entry.token ≡ token
      → IsPostable entry
      → AllByRecursion (λ before. token_number before.token ≤ token_number entry.token)
      (done ++ earlier)
  nondecreasing earlier entry all is postable =
      each-append _ done earlier
      (each-weaker _ _ done (λ before known.
      let less = less_number before.token entry.token known.0.token postable.token
      (subst (λ (t : Token). token_cmp before.token t ≡ Less) (sym is) known.1) in
      omega arith) below)
      (each-weaker _ _ earlier (λ before of.
      let same : token_number before.token ≡ token_number entry.token =
      ap token_number (of ∙ sym is) in
      omega arith) all)

  own_is : (earlier : List Entry) → AllOf token earlier → own token (done ++ earlier) ≡ earlier
  own_is earlier all =
      own-append token done earlier
      ∙ ap (λ (es : List Entry). es ++ own token earlier)
      (own_below token done (each-weaker _ _ done (λ entry known. known.1) below))
      ∙ own_all token earlier all

  next_is : (earlier rest : List Entry) (entry : Entry) (line : List ℕ)
      → IsOwn fares token (earlier ++ entry ∷ rest)
      → length (done ++ (earlier ++ entry ∷ rest)) ≤ 2 ^ 62
      → IsLedgerLine fares token (length earlier + 1) entry (reason_after fares token earlier entry)
      line → Short line → IsNext fares (done ++ earlier) entry line
  next_is earlier rest entry line known few shown short =
      let of = all_parts (λ (e : Entry). e.token ≡ token) earlier (entry ∷ rest) known.of in
      let postable = (all_parts IsPostable earlier (entry ∷ rest) known.postable).1.0 in
      let is : entry.token ≡ token = of.1.0 in
      let owned : own entry.token (done ++ earlier) ≡ earlier =
      ap (λ (t : Token). own t (done ++ earlier)) is ∙ own_is earlier of.0 in
      let alone : own entry.token earlier ≡ earlier =
      ap (λ (t : Token). own t earlier) is ∙ own_all token earlier of.0 in
      let line_is : IsLedgerLine fares entry.token (length earlier + 1) entry
      (reason_after fares entry.token earlier entry) line
      = subst (λ (t : Token). IsLedgerLine fares t (length earlier + 1) entry
      (reason_after fares t earlier entry) line) (sym is) shown in
      record {
        postable = postable;
        nondecreasing = All-from_recursion
            (λ (before : Entry). token_number before.token ≤ token_number entry.token)
            (done ++ earlier) (nondecreasing earlier entry of.0 is postable);
        replied = replied_same fares earlier (done ++ earlier) entry (alone ∙ sym owned)
            (known.legal.each earlier entry rest refl);
        shown = subst (λ (es : List Entry). IsNextLine fares es entry line) (sym owned) line_is;
        short = short;
        few = omega (
          arith,
          few,
          length-append done earlier,
          length-append done (earlier ++ entry ∷ rest),
          length-append earlier (entry ∷ rest),
        );
      }

  reported_token : (earlier rest : List Entry) (text : List ℕ) → IsOwn fares token (earlier ++ rest)
      → length (done ++ (earlier ++ rest)) ≤ 2 ^ 62
      → AreLedgerLinesAfter fares token earlier rest text
      → Reported fares (done ++ earlier) rest text
  reported_token earlier [] text known few lines = reported_none fares (done ++ earlier) text lines
  reported_token earlier (entry ∷ rest) text known few lines =
      let line = lines.0 in
      let others = lines.1 in
      let same : (earlier ++ entry ∷ []) ++ rest ≡ earlier ++ entry ∷ rest =
      append_assoc earlier (entry ∷ []) rest in
      let more = reported_token (earlier ++ entry ∷ []) rest others
      (subst (IsOwn fares token) (sym same) known)
      (subst (λ (es : List Entry). length (done ++ es) ≤ 2 ^ 62) (sym same) few) lines.3 in
      let ends = line_ends_once fares token (length earlier + 1) entry
      (reason_after fares token earlier entry) line letters lines.2 in
      let split : (trailing : List ℕ) → text ++ trailing ≡ ends.front ++ 10 ∷ (others ++ trailing) =
      λ trailing.
      ap (λ (t : List ℕ). t ++ trailing) (lines.4 ∙ ap (λ (t : List ℕ). t ++ others) ends.shown)
      ∙ append_assoc (ends.front ++ 10 ∷ []) others trailing
      ∙ append_assoc ends.front (10 ∷ []) (others ++ trailing) in
      record {
        lines = line ∷ more.lines;
        cut = λ trailing. ap lines_of (split trailing)
            ∙ lines-line ends.front (others ++ trailing) ends.lacks
            ∙ ap (λ (l : List ℕ). l ∷ lines_of (others ++ trailing)) (sym ends.shown)
            ∙ ap (λ (ls : List (List ℕ)). line ∷ ls) (more.cut trailing);
        are = λ short. (
          next_is earlier rest entry line known few lines.2 short.0,
          subst (λ (es : List Entry). AreNext fares es rest more.lines)
              (sym (append_assoc done earlier (entry ∷ []))) (more.are short.1),
        );
      }

-- tokens that rise, all above those of the entries that have lines
record Goes (fares : Fares) (history done : List Entry) (list : List Token) : Type 0 where
  pub increases : IsStrictlySortedBy token_cmp list
  pub above : AllByRecursion (λ token. AreBelow token done) list
  pub few : length (done ++ flat_map (λ token. own token history) list) ≤ 2 ^ 62

own_known : (fares : Fares) (history : List Entry) (token : Token)
    → ((t : Token) → IsLegal fares (own t history)) → AllByRecursion IsPostable history
    → IsOwn fares token (own token history)
own_known fares history token legal postable =
    let each = own_each IsPostable token history postable in
    record { of = each.1; postable = each.0; legal = legal token }

own_are_below : (fares : Fares) (token next : Token) (entries : List Entry)
    → IsOwn fares token entries → token_cmp token next ≡ Less → AreBelow next entries
own_are_below fares token next entries known less = by entries known.of known.postable
  where
    by : (es : List Entry) → AllOf token es → AllByRecursion IsPostable es → AreBelow next es
    by [] of postable = tt
    by (e ∷ es) of postable = (
      (postable.0, subst (λ (t : Token). token_cmp t next ≡ Less) (sym of.0) less),
      by es of.1 postable.1,
    )

goes_on : (fares : Fares) (history done : List Entry) (token : Token) (list : List Token)
    → IsOwn fares token (own token history)
    → Goes fares history done (token ∷ list) → Goes fares history (done ++ own token history) list
unfolding IsStrictlySortedBy
goes_on fares history done token list known goes = record {
  increases = goes.increases.1;
  above = by list goes.increases.0 goes.above.1;
  few = subst (λ (es : List Entry). length es ≤ 2 ^ 62)
      (sym (append_assoc done (own token history) (flat_map (λ t. own t history) list))) goes.few;
}
  where
    by : (ts : List Token) → AllByRecursion (λ z. token_cmp token z ≡ Less) ts
        → AllByRecursion (λ t. AreBelow t done) ts
        → AllByRecursion (λ t. AreBelow t (done ++ own token history)) ts
    by [] less before = tt
    by (t ∷ ts) less before = (
      each-append _ done (own token history) before.0
          (own_are_below fares token t (own token history) known less.0),
      by ts less.1 before.1,
    )

reported_each : (fares : Fares) (history done : List Entry) (list : List Token) (text : List ℕ)
    → HasLetterNames fares → ((t : Token) → IsLegal fares (own t history))
    → AllByRecursion IsPostable history → Goes fares history done list
    → AreLinesOfEach fares history list text
    → Reported fares done (flat_map (λ token. own token history) list) text
reported_each fares history done [] text letters legal postable goes lines =
    reported_none fares done text lines
reported_each fares history done (token ∷ list) text letters legal postable goes lines =
    let known = own_known fares history token legal postable in
    let mine = own token history in
    let others = flat_map (λ t. own t history) list in
    let few : length (done ++ mine) ≤ 2 ^ 62 =
    omega (
      arith,
      goes.few,
      length-append done (mine ++ others),
      length-append mine others,
      length-append done mine,
    ) in
    let first = reported_token fares letters token done goes.above.0 [] mine lines.0 known few
    lines.2 in
    let then = reported_each fares history (done ++ mine) list lines.1 letters legal postable
    (goes_on fares history done token list known goes) lines.3 in
    record {
      lines = first.lines ++ then.lines;
      cut = λ trailing. ap (λ (t : List ℕ). lines_of (t ++ trailing)) lines.4
          ∙ ap lines_of (append_assoc lines.0 lines.1 trailing)
          ∙ first.cut (lines.1 ++ trailing)
          ∙ ap (λ (ls : List (List ℕ)). first.lines ++ ls) (then.cut trailing)
          ∙ sym (append_assoc first.lines then.lines (lines_of trailing));
      are = λ short.
          let parts = all_parts Short first.lines then.lines short in
          next_append fares done mine others first.lines then.lines
          (subst (λ (es : List Entry). AreNext fares es mine first.lines) (append-nil done)
          (first.are parts.0)) (then.are parts.1);
    }

-- no line was written yet
above_none : (list : List Token) → AllByRecursion (λ token. AreBelow token []) list
above_none [] = tt
above_none (token ∷ list) = (tt, above_none list)

reported_increase : (only : Option Token) (history : List Entry)
    → IsStrictlySortedBy token_cmp (ledger_tokens only history)
unfolding IsStrictlySortedBy tokens
reported_increase None history =
    (increasing-is token_cmp-total token_cmp-ties (map token_of history)).increases
reported_increase (Some token) history = (tt, tt)

head_front : List ℕ
head_front = codes
    "token,line,moment,validator,mode,answer,cents,window_start,window_end,ride,reason,points_at"

pub written_is_read : (fares : Fares) (only : Option Token) (history : List Entry) (text : List ℕ)
    → CanBePrinted fares only history → AreShort text
    → IsLedgerOver fares history only text → IsLedgerOf fares (reported_entries only history) text
unfolding lines_of reported_each head_front
written_is_read fares only history text can short over =
    let reported = reported_each fares history [] (ledger_tokens only history) over.lines can.names
    can.legal
    can.postable
    (record {
      increases = reported_increase only history;
      above = above_none (ledger_tokens only history);
      few =
          can.few;
    }) over.of_each in
    let body : lines_of over.lines ≡ reported.lines =
    ap lines_of (sym (append-nil over.lines)) ∙ reported.cut [] ∙ append-nil reported.lines in
    let head : lines_of (head_text ++ over.lines) ≡ head_text ∷ lines_of over.lines =
    lines-line head_front over.lines (lacks-tested 10 head_front refl) in
    let cut : lines_of text ≡ head_text ∷ reported.lines =
    ap lines_of over.whole ∙ head ∙ ap (λ (ls : List (List ℕ)). head_text ∷ ls) body in
    record {
      lines = reported.lines;
      split = cut;
      are =
          reported.are (subst (AllByRecursion Short) cut short).1;
    }
