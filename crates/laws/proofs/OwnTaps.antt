-- A token's own entries are those of its own taps.
use Rattle.std.proofs.Common.{◌≡◌, Bool, true, false, cond, List, [], ◌∷◌, ◌++◌, map, filter, refl}
use Rattle.std.proofs.Common.{sym, ap, ◌∙◌}
use Rattle.account_rule.specs.declared.tap.TapIn.{TapIn}
use Rattle.fare_caps.specs.{CapMeanings.capped_rules_of, CappedReplies.capped_reply}
use Rattle.histories.proofs.Histories.{taps-push}
use Rattle.histories.specs.Entry.{is_of, own, tap_of, taps_of}
use Rattle.histories.specs.{Keys.same_token, Plain.answered, Plain.token_of_bytes, Plain.with_reply}
use Rattle.histories.specs.declared.entry.Entry.{Entry}
use Rattle.laws.proofs.Posts.{after}
use Rattle.laws.specs.TapSets.{is_tap_of}
use Rattle.settlement.proofs.Histories.{entry_of}
use Rattle.tap_views.specs.Token.{bytes_of, token_eq}
use Rattle.tap_views.specs.declared.{encoder.TapFields.TapFields, token.Token.Token}
use Rattle.tariffs.specs.Fares.{Fares}

module _ (fares : Fares) (token : Token) where
  pub answered_alike : (one other : List Entry) (entry : Entry) → entry.token ≡ token
      → taps_of fares token one ≡ taps_of fares token other
      → answered fares one entry ≡ answered fares other entry
  unfolding answered
  answered_alike one other entry is same =
      ap (with_reply entry)
      (ap (λ t. capped_reply (capped_rules_of fares (bytes_of entry.token)) (taps_of fares t one)
      (tap_of fares entry)) is
      ∙ ap (λ ts. capped_reply (capped_rules_of fares (bytes_of entry.token)) ts
      (tap_of fares entry)) same
      ∙ ap (λ t. capped_reply (capped_rules_of fares (bytes_of entry.token)) (taps_of fares t other)
      (tap_of fares entry)) (sym is))

  pub push_mine : (one other : List Entry) (entry : Entry)
      → taps_of fares token one ≡ taps_of fares token other
      → taps_of fares token (one ++ entry ∷ []) ≡ taps_of fares token (other ++ entry ∷ [])
  push_mine one other entry same =
      taps-push fares token one entry
      ∙ ap (λ ts. cond (is_of token entry) (ts ++ tap_of fares entry ∷ []) ts) same
      ∙ sym (taps-push fares token other entry)

  pub push_other : (one : List Entry) (entry : Entry) → is_of token entry ≡ false
      → taps_of fares token (one ++ entry ∷ []) ≡ taps_of fares token one
  push_other one entry is =
      taps-push fares token one entry
      ∙ ap (λ b. cond b (taps_of fares token one ++ tap_of fares entry ∷ [])
      (taps_of fares token one)) is

  -- what is the token's of the entries of taps is that of its taps
  pub own_after : (one other : List Entry) (fs : List TapFields)
      → taps_of fares token one ≡ taps_of fares token other
      → own token (after fares one fs) ≡ after fares other (filter (is_tap_of token) fs)
  unfolding own after answered entry_of
  own_after one other [] same = refl
  own_after one other (f ∷ fs) same =
      by_test (token_eq (token_of_bytes f.token) token) refl (λ o p s. own_after o p fs s)
    where
      by_test : (b : Bool) → token_eq (token_of_bytes f.token) token ≡ b
          → ((o p : List Entry) → taps_of fares token o ≡ taps_of fares token p
          → filter (is_of token) (after fares o fs) ≡ after fares p (filter (is_tap_of token) fs))
          → cond b (answered fares one (entry_of f)
          ∷ filter (is_of token) (after fares (one ++ answered fares one (entry_of f) ∷ []) fs))
          (filter (is_of token) (after fares (one ++ answered fares one (entry_of f) ∷ []) fs))
          ≡ after fares other (cond b (f ∷ filter (is_tap_of token) fs)
          (filter (is_tap_of token) fs))
      by_test true e more =
          let entry = answered fares one (entry_of f) in
          let alike = answered_alike one other (entry_of f)
          (same_token (token_of_bytes f.token) token e) same in
          ap (λ es. entry ∷ es) (more (one ++ entry ∷ []) (other ++ entry ∷ [])
          (push_mine one other entry same))
          ∙ ap (λ (g : Entry). g ∷ after fares (other ++ g ∷ [])
          (filter (is_tap_of token) fs)) alike
      by_test false e more =
          let entry = answered fares one (entry_of f) in
          more (one ++ entry ∷ []) other (push_other one entry e ∙ same)

-- a tap as the account rule sees it
unfoldable pub tap_in : Fares → TapFields → TapIn
tap_in fares f = tap_of fares (entry_of f)

pub taps_after : (fares : Fares) (earlier : List Entry) (fs : List TapFields)
    → map (tap_of fares) (after fares earlier fs) ≡ map (tap_in fares) fs
unfolding after answered tap_of tap_in
taps_after fares earlier [] = refl
taps_after fares earlier (f ∷ fs) =
    ap (λ ts. tap_in fares f ∷ ts)
    (taps_after fares (earlier ++ answered fares earlier (entry_of f) ∷ []) fs)
