-- Posting taps after histories that are the same to the account rule.
use Rattle.std.proofs.Common.{◌≡◌, Bool, true, false, cond, List, [], ◌∷◌, ◌++◌, map, filter, refl}
use Rattle.std.proofs.Common.{sym, ap, ◌∙◌, subst, append-nil, append_assoc}
use Rattle.account_rule.specs.declared.tap.TapIn.{TapIn}
use Rattle.fare_caps.specs.{CapMeanings.capped_rules_of, CappedReplies.capped_reply}
use Rattle.histories.proofs.Histories.{taps-push}
use Rattle.histories.specs.Entry.{is_of, tap_of, taps_of}
use Rattle.histories.specs.Plain.{answered, plain_after, unanswered, with_reply}
use Rattle.histories.specs.declared.entry.Entry.{Entry}
use Rattle.laws.proofs.States.{SameState, state-refl, state-sym, state-trans, state-push}
use Rattle.laws.proofs.States.{state-twice, same_reply, not_live_again}
use Rattle.laws.specs.Bills.{is_live, live_entries}
use Rattle.settlement.proofs.{Histories.entry_of, Own.own_entry}
use Rattle.tap_views.specs.{Encoding.fields_of, Layout.Tap, Token.bytes_of}
use Rattle.tap_views.specs.declared.{encoder.TapFields.TapFields, token.Token.Token}
use Rattle.tariffs.specs.Fares.{Fares}

-- the entries of taps that follow earlier ones, by the fields of the taps
unfoldable pub after : Fares → List Entry → List TapFields → List Entry
after fares earlier [] = []
after fares earlier (f ∷ fs) =
    answered fares earlier (entry_of f)
    ∷ after fares (earlier ++ answered fares earlier (entry_of f) ∷ []) fs

pub plain_is_after : (fares : Fares) (earlier : List Entry) (taps : List Tap)
    → plain_after fares earlier taps ≡ after fares earlier (map fields_of taps)
unfolding plain_after after entry_of
plain_is_after fares earlier [] = refl
plain_is_after fares earlier (tap ∷ taps) =
    ap (λ es. answered fares earlier (unanswered tap) ∷ es)
    (plain_is_after fares (earlier ++ answered fares earlier (unanswered tap) ∷ []) taps)

-- they are the same to the rule, whatever token is asked for
abbrev pub SameStates : Fares → List Entry → List Entry → Type 0
SameStates fares one other =
    (token : Token) → SameState (taps_of fares token one) (taps_of fares token other)

pub states-push : (fares : Fares) (one other : List Entry) (entry : Entry)
    → SameStates fares one other → SameStates fares (one ++ entry ∷ []) (other ++ entry ∷ [])
states-push fares one other entry same = λ token.
    let P : List TapIn → Type 0 = λ ts. SameState ts (taps_of fares token (other ++ entry ∷ [])) in
    let Q : List TapIn → Type 0 =
    λ ts. SameState (cond (is_of token entry) (taps_of fares token one ++ tap_of fares entry ∷ [])
    (taps_of fares token one)) ts in
    subst P (sym (taps-push fares token one entry))
    (subst Q (sym (taps-push fares token other entry)) (by_test token (is_of token entry)))
  where
    by_test : (token : Token) (b : Bool)
        → SameState (cond b (taps_of fares token one ++ tap_of fares entry ∷ [])
        (taps_of fares token one))
        (cond b (taps_of fares token other ++ tap_of fares entry ∷ []) (taps_of fares token other))
    by_test token true =
        state-push (taps_of fares token one) (taps_of fares token other) (tap_of fares entry)
        (same token)
    by_test token false = same token

pub states-append : (fares : Fares) (one other entries : List Entry) → SameStates fares one other
    → SameStates fares (one ++ entries) (other ++ entries)
states-append fares one other [] same =
    let P : List Entry → Type 0 = λ es. SameStates fares es (other ++ []) in
    let Q : List Entry → Type 0 = λ es. SameStates fares one es in
    subst P (sym (append-nil one)) (subst Q (sym (append-nil other)) same)
states-append fares one other (entry ∷ entries) same =
    let P : List Entry → Type 0 = λ es. SameStates fares es (other ++ entry ∷ entries) in
    let Q : List Entry → Type 0 =
    λ es. SameStates fares ((one ++ entry ∷ []) ++ entries) es in
    subst P (append_assoc one (entry ∷ []) entries)
    (subst Q (append_assoc other (entry ∷ []) entries)
    (states-append fares (one ++ entry ∷ []) (other ++ entry ∷ []) entries
    (states-push fares one other entry same)))

same_answer : (fares : Fares) (one other : List Entry) (entry : Entry) → SameStates fares one other
    → answered fares one entry ≡ answered fares other entry
unfolding answered
same_answer fares one other entry same =
    ap (with_reply entry)
    (same_reply (capped_rules_of fares (bytes_of entry.token))
    (taps_of fares entry.token one)
    (taps_of fares entry.token other) (tap_of fares entry) (same entry.token))

-- what is posted after them is answered alike
pub same_after_states : (fares : Fares) (one other : List Entry) (fs : List TapFields)
    → SameStates fares one other → after fares one fs ≡ after fares other fs
unfolding after
same_after_states fares one other [] same = refl
same_after_states fares one other (f ∷ fs) same =
    let here = same_answer fares one other (entry_of f) same in
    let next = states-push fares one other (answered fares one (entry_of f)) same in
    ap (λ es. answered fares one (entry_of f) ∷ es)
    (same_after_states fares (one ++ answered fares one (entry_of f) ∷ [])
    (other ++ answered fares one (entry_of f) ∷ []) fs next)
    ∙ ap (λ e. e ∷ after fares (other ++ e ∷ []) fs) here

-- ---- lists of taps that are billed alike after the earlier entries
pub record SameBill (fares : Fares) (earlier : List Entry) (xs ys : List TapFields) : Type 0 where
  pub lines : live_entries (after fares earlier xs) ≡ live_entries (after fares earlier ys)
  pub states : SameStates fares (earlier ++ after fares earlier xs)
      (earlier ++ after fares earlier ys)

pub bill-refl : (fares : Fares) (earlier : List Entry) (xs : List TapFields)
    → SameBill fares earlier xs xs
bill-refl fares earlier xs = record {
  lines = refl;
  states = λ token. state-refl (taps_of fares token (earlier ++ after fares earlier xs));
}

pub bill-sym : (fares : Fares) (earlier : List Entry) (xs ys : List TapFields)
    → SameBill fares earlier xs ys → SameBill fares earlier ys xs
bill-sym fares earlier xs ys same = record {
  lines = sym same.lines;
  states = λ token. state-sym (taps_of fares token (earlier ++ after fares earlier xs))
      (taps_of fares token (earlier ++ after fares earlier ys)) (same.states token);
}

pub bill-trans : (fares : Fares) (earlier : List Entry) (xs ys zs : List TapFields)
    → SameBill fares earlier xs ys → SameBill fares earlier ys zs → SameBill fares earlier xs zs
bill-trans fares earlier xs ys zs same more = record {
  lines = same.lines ∙ more.lines;
  states = λ token. state-trans (taps_of fares token (earlier ++ after fares earlier xs))
      (taps_of fares token (earlier ++ after fares earlier ys))
      (taps_of fares token (earlier ++ after fares earlier zs)) (same.states token)
      (more.states token);
}

pub bill-cons : (fares : Fares) (earlier : List Entry) (f : TapFields) (xs ys : List TapFields)
    → SameBill fares (earlier ++ answered fares earlier (entry_of f) ∷ []) xs ys
    → SameBill fares earlier (f ∷ xs) (f ∷ ys)
unfolding after live_entries
bill-cons fares earlier f xs ys same =
    let entry = answered fares earlier (entry_of f) in
    let next = earlier ++ entry ∷ [] in
    let P : List Entry → Type 0 =
    λ es. SameStates fares es (earlier ++ entry ∷ after fares next ys) in
    let Q : List Entry → Type 0 = λ es. SameStates fares (next ++ after fares next xs) es in
    record {
      lines = ap (λ es. cond (is_live entry) (entry ∷ es) es) same.lines;
      states = subst P (append_assoc earlier (entry ∷ []) (after fares next xs))
          (subst Q (append_assoc earlier (entry ∷ []) (after fares next ys)) same.states);
    }

-- ---- a tap that comes twice
-- after a tap was posted, posting it again changes no state
states-twice : (fares : Fares) (earlier : List Entry) (f : TapFields)
    → SameStates fares (earlier ++ answered fares earlier (entry_of f) ∷ [])
    ((earlier ++ answered fares earlier (entry_of f) ∷ [])
    ++ answered fares (earlier ++ answered fares earlier (entry_of f) ∷ []) (entry_of f) ∷ [])
unfolding answered tap_of
states-twice fares earlier f = λ token.
    let next = earlier ++ answered fares earlier (entry_of f) ∷ [] in
    let entry = answered fares next (entry_of f) in
    let Q : List TapIn → Type 0 = λ ts. SameState (taps_of fares token next) ts in
    subst Q (sym (taps-push fares token next entry)) (by_test token (is_of token (entry_of f)) refl)
  where
    by_test : (token : Token) (b : Bool) → is_of token (entry_of f) ≡ b
        → SameState (taps_of fares token (earlier ++ answered fares earlier (entry_of f) ∷ []))
        (cond b (taps_of fares token (earlier ++ answered fares earlier (entry_of f) ∷ [])
        ++ tap_of fares (entry_of f) ∷ [])
        (taps_of fares token (earlier ++ answered fares earlier (entry_of f) ∷ [])))
    by_test token true e =
        let R : List TapIn → Type 0 = λ ts. SameState ts (ts ++ tap_of fares (entry_of f) ∷ []) in
        subst R (sym (taps-push fares token earlier (answered fares earlier (entry_of f))
        ∙ ap (λ b. cond b (taps_of fares token earlier ++ tap_of fares (entry_of f) ∷ [])
        (taps_of fares token earlier)) e))
        (state-twice (taps_of fares token earlier) (tap_of fares (entry_of f)))
    by_test token false e =
        state-refl (taps_of fares token (earlier ++ answered fares earlier (entry_of f) ∷ []))

-- and its entry is no ride and no transfer
dead_again : (fares : Fares) (earlier : List Entry) (f : TapFields)
    → is_live (answered fares (earlier ++ answered fares earlier (entry_of f) ∷ []) (entry_of f))
    ≡ false
unfolding answered tap_of
dead_again fares earlier f =
    let entry = entry_of f in
    let tap = tap_of fares entry in
    let token = entry.token in
    let L : List TapIn → Type 0 =
    λ ts. is_live (with_reply entry (capped_reply (capped_rules_of fares (bytes_of token)) ts tap))
    ≡ false in
    subst L (sym (taps-push fares token earlier (answered fares earlier entry)
    ∙ ap (λ b. cond b (taps_of fares token earlier ++ tap ∷ []) (taps_of fares token earlier))
    (own_entry entry)))
    (not_live_again (capped_rules_of fares (bytes_of token)) (taps_of fares token earlier) tap)

pub bill-twice : (fares : Fares) (earlier : List Entry) (f : TapFields) (fs : List TapFields)
    → SameBill fares earlier (f ∷ f ∷ fs) (f ∷ fs)
unfolding after live_entries
bill-twice fares earlier f fs =
    let entry = answered fares earlier (entry_of f) in
    let next = earlier ++ entry ∷ [] in
    let double = answered fares next (entry_of f) in
    let same = states-twice fares earlier f in
    let rest : after fares next fs ≡ after fares (next ++ double ∷ []) fs =
    same_after_states fares next (next ++ double ∷ []) fs same in
    let more = after fares (next ++ double ∷ []) fs in
    let S : List Entry → Type 0 = λ es. SameStates fares (next ++ es) (next ++ double ∷ more) in
    let T : List Entry → Type 0 = λ es. SameStates fares (next ++ more) es in
    let whole : SameStates fares (next ++ after fares next fs) (next ++ double ∷ more) =
    subst S (sym rest)
    (subst T (append_assoc next (double ∷ []) more)
    (states-append fares next (next ++ double ∷ []) more same)) in
    let P : List Entry → Type 0 =
    λ es. SameStates fares es (earlier ++ entry ∷ double ∷ more) in
    let Q : List Entry → Type 0 = λ es. SameStates fares (next ++ after fares next fs) es in
    let ahead : SameStates fares (earlier ++ entry ∷ after fares next fs)
    (earlier ++ entry ∷ double ∷ more) =
    subst P (append_assoc earlier (entry ∷ []) (after fares next fs))
    (subst Q (append_assoc earlier (entry ∷ []) (double ∷ more)) whole) in
    record {
      lines =
          ap (λ b. cond (is_live entry) (entry ∷ cond b (double ∷ filter is_live more)
          (filter is_live more)) (cond b (double ∷ filter is_live more) (filter is_live more)))
          (dead_again fares earlier f)
          ∙ ap (λ es. cond (is_live entry) (entry ∷ filter is_live es) (filter is_live es))
          (sym rest);
      states = λ token. state-sym (taps_of fares token (earlier ++ entry ∷ after fares next fs))
          (taps_of fares token (earlier ++ entry ∷ double ∷ more)) (ahead token);
    }
