-- A history that is read entry by entry.
use Rattle.std.proofs.Common.{◌≡◌, ℕ, ◌+◌, ◌<◌, ◌≤◌, List, [], ◌∷◌, ◌++◌, Some, None, length, take}
use Rattle.std.proofs.Common.{slice_get, get_or, min, refl, sym, ap, ◌∙◌, ⊎_elim, arith}
use Rattle.account_rule.specs.declared.reply.Reply.{Reply}
use Rattle.histories.proofs.SumsLemmas.{sums-more}
use Rattle.histories.specs.{Entry.is_of, Entry.own, Entry.reply_of, Sums.Sums, Sums.sums}
use Rattle.histories.specs.{Sums.sums_of_replies, Sums.add_sums, declared.entry.Entry.Entry}
use Rattle.std.proofs.lemmas.{Bool.cases_lt, List.append_assoc, List.Elements.filter-append}
use Rattle.std.proofs.lemmas.Option.{slice_get-get_or, slice_get_past, slice_get_within}
use Rattle.std.proofs.lemmas.Option.{get_or_from_slice_get}
use Rattle.tap_views.proofs.Lists.{take_next}
use Rattle.tap_views.specs.declared.token.Token.{Token}

-- the sums of one entry more
pub sums-read : (entries : List Entry) (i : ℕ) (entry : Entry) (answered : Reply) (old new : Sums)
    → slice_get entries i ≡ Some entry → answered ≡ reply_of entry → old ≡ sums (take i entries)
    → new ≡ add_sums old (sums_of_replies (answered ∷ [])) → new ≡ sums (take (i + 1) entries)
sums-read entries i entry answered old new at is before added =
    sums-more entries i entry answered old new (slice_get_within entries i entry at)
    (is ∙ ap reply_of (sym (get_or_from_slice_get entries i entry entry at))) before added

-- the token's own of one entry more, behind others
pub own-read : (first entries old new : List Entry) (token : Token) (i : ℕ) (entry : Entry)
    → slice_get entries i ≡ Some entry → old ≡ first ++ own token (take i entries)
    → new ≡ old ++ own token (entry ∷ []) → new ≡ first ++ own token (take (i + 1) entries)
unfolding own
own-read first entries old new token i entry at before pushed =
    pushed
    ∙ ap (λ (es : List Entry). es ++ own token (entry ∷ [])) before
    ∙ append_assoc first (own token (take i entries)) (own token (entry ∷ []))
    ∙ ap (λ (es : List Entry). first ++ es)
    (sym (filter-append (is_of token) (take i entries) (entry ∷ []))
    ∙ ap (own token) (take_next entries i entry at))

-- one entry more behind others
pub grown-read : (before entries : List Entry) (i : ℕ) (entry : Entry)
    → slice_get entries i ≡ Some entry
    → (before ++ take i entries) ++ entry ∷ [] ≡ before ++ take (i + 1) entries
grown-read before entries i entry at =
    append_assoc before (take i entries) (entry ∷ [])
    ∙ ap (λ (es : List Entry). before ++ es) (take_next entries i entry at)

-- two histories that agree before a place, and at the place
pub same-read : (left right : List Entry) (i : ℕ) (here there : Entry)
    → slice_get left i ≡ Some here → slice_get right i ≡ Some there → here ≡ there
    → take i left ≡ take i right → take (i + 1) left ≡ take (i + 1) right
same-read left right i here there at other same before =
    sym (take_next left i here at)
    ∙ ap (λ (e : Entry). take i left ++ e ∷ []) same
    ∙ ap (λ (es : List Entry). es ++ there ∷ []) before
    ∙ take_next right i there other

pub agree-more : (left right : List Entry) (i : ℕ) → i < length left
    → slice_get left i ≡ slice_get right i → take i left ≡ take i right
    → take (i + 1) left ≡ take (i + 1) right
agree-more [] right i within same before = absurd (omega arith)
agree-more (first ∷ left) right i within same before =
    let at : slice_get (first ∷ left) i ≡ Some (get_or (first ∷ left) i first) =
    slice_get-get_or (first ∷ left) i first within in
    same-read (first ∷ left) right i (get_or (first ∷ left) i first) (get_or (first ∷ left) i first)
    at (sym same ∙ at) refl before

-- if one list has ended and the other has not, they differ
ended : (left right : List Entry) (position : ℕ) → length left ≤ position → position < length right
    → slice_get left position ≡ slice_get right position → ⊥
ended left [] position past within same = omega arith
ended left (first ∷ right) position past within same =
    let some : slice_get (first ∷ right) position ≡ Some (get_or (first ∷ right) position first) =
    slice_get-get_or (first ∷ right) position first within in
    let none : slice_get left position ≡ None = slice_get_past left position past in
    cc

-- so lists of two lengths differ at the end of the shorter
pub ends-apart : (left right : List Entry) (position : ℕ) → (length left ≡ length right → ⊥)
    → position ≡ min (length left) (length right)
    → slice_get left position ≡ slice_get right position → ⊥
ends-apart left right position apart is same =
    ⊎_elim
    (λ (shorter : length left < length right). ended left right position (omega arith) (omega arith)
    same)
    (λ (other : length right ≤ length left). ⊎_elim
    (λ (longer : length right < length left). ended right left position (omega arith) (omega arith)
    (sym same))
    (λ (back : length left ≤ length right). apart (omega arith))
    (cases_lt (length right) (length left)))
    (cases_lt (length left) (length right))
