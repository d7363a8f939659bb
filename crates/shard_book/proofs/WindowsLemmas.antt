-- A token's entries carry the account rule's replies to its taps.
use Rattle.std.proofs.Common.{◌≡◌, ℕ, true, false, cond, List, [], ◌∷◌, ◌++◌, map, count_by, sum_by}
use Rattle.std.proofs.Common.{refl, sym, ap, subst, ◌∙◌}
use Rattle.account_rule.specs.{Laws.is_paid_reply, declared.reply.Answer.TheVariants.Paid}
use Rattle.account_rule.specs.declared.reply.Answer.TheVariants.{Transfer, Capped, Stale, Unknown}
use Rattle.account_rule.specs.declared.{reply.Reply.Reply, tap.TapIn.TapIn}
use Rattle.fare_caps.specs.CapMeanings.{capped_rules_of}
use Rattle.fare_caps.specs.CappedReplies.{capped_replies, capped_replies_after, capped_reply}
use Rattle.histories.proofs.Histories.{taps-push}
use Rattle.histories.specs.Entry.{is_of, own, tap_of, taps_of, reply_of}
use Rattle.histories.specs.{History.IsReplied, History.IsLegal, Keys.same_token}
use Rattle.histories.specs.{Sums.sums_of_replies, Sums.is_paid, declared.entry.Entry.Entry}
use Rattle.std.proofs.lemmas.List.{append_assoc}
use Rattle.tap_views.specs.{Token.bytes_of, declared.token.Token.Token}
use Rattle.tariffs.specs.Fares.{Fares}

-- the replies of the token's entries after some others
replies-after : (table : Fares) (token : Token) (before rest : List Entry)
    → IsLegal table (before ++ rest)
    → map reply_of (own token rest)
    ≡ capped_replies_after (capped_rules_of table (bytes_of token)) (taps_of table token before)
    (taps_of table token rest)
unfolding own taps_of IsReplied capped_replies_after
replies-after table token before [] legal = refl
replies-after table token before (entry ∷ rest) legal =
    let later : IsLegal table ((before ++ entry ∷ []) ++ rest) =
    subst (λ (es : List Entry). IsLegal table es) (sym (append_assoc before (entry ∷ []) rest))
    legal in
    let after = replies-after table token (before ++ entry ∷ []) rest later in
    let moved = after ∙ ap
    (λ (taps : List TapIn). capped_replies_after (capped_rules_of table (bytes_of token)) taps
    (taps_of table token rest)) (taps-push table token before entry) in
    elim (is_of token entry) as (λ b. is_of token entry ≡ b
    → map reply_of (own token rest)
    ≡ capped_replies_after (capped_rules_of table (bytes_of token))
    (cond b (taps_of table token before ++ tap_of table entry ∷ []) (taps_of table token before))
    (taps_of table token rest)
    → map reply_of (cond b (entry ∷ own token rest) (own token rest))
    ≡ capped_replies_after (capped_rules_of table (bytes_of token)) (taps_of table token before)
    (map (tap_of table) (cond b (entry ∷ own token rest) (own token rest)))) [
      | true ↦ λ same rest_is.
          let is : entry.token ≡ token = same_token entry.token token same in
          ap (λ (r : Reply). r ∷ map reply_of (own token rest))
          (subst (λ (t : Token). reply_of entry
          ≡ capped_reply (capped_rules_of table (bytes_of t)) (taps_of table t before)
          (tap_of table entry)) is
          (legal.each before entry rest refl))
          ∙ ap (λ (rs : List Reply). capped_reply (capped_rules_of table (bytes_of token))
          (taps_of table token before) (tap_of table entry) ∷ rs) rest_is
      | false ↦ λ _ rest_is. rest_is
    ] refl moved

-- the replies of the token's entries are the replies to its taps
pub replies-own : (table : Fares) (token : Token) (entries : List Entry) → IsLegal table entries
    → map reply_of (own token entries)
    ≡ capped_replies (capped_rules_of table (bytes_of token)) (taps_of table token entries)
unfolding capped_replies own taps_of
replies-own table token entries legal = replies-after table token [] entries legal

-- the two ways to say that a reply is paid
paid-alike : (reply : Reply) → is_paid reply.answer ≡ is_paid_reply reply
paid-alike
    reply = elim reply.answer as (λ a. is_paid a
    ≡ is_paid_reply (record { answer = a; cents = reply.cents }))
    [ Paid ↦ refl | Transfer ↦ refl | Capped ↦ refl | Stale ↦ refl | Unknown ↦ refl ]

-- what replies add up to
abbrev pub paid-of : List Reply → ℕ
paid-of replied = (sums_of_replies replied).paid

abbrev pub cents-of : List Reply → ℕ
cents-of replied = (sums_of_replies replied).cents

pub paid-counted : (replied : List Reply) → paid-of replied ≡ count_by is_paid_reply replied
unfolding sums_of_replies
paid-counted replied = λ i. count_by (λ (reply : Reply). paid-alike reply i) replied

pub cents-counted : (replied : List Reply)
    → cents-of replied ≡ sum_by (λ (reply : Reply). reply.cents) replied
unfolding sums_of_replies
cents-counted replied = refl

-- what the token's entries were charged is what the rule's replies to its taps were
pub cents-own : (table : Fares) (token : Token) (entries : List Entry) → IsLegal table entries
    → (sums_of_replies (map reply_of (own token entries))).cents
    ≡ sum_by (λ (reply : Reply). reply.cents)
    (capped_replies (capped_rules_of table (bytes_of token)) (taps_of table token entries))
cents-own table token entries legal =
    ap cents-of (replies-own table token entries legal) ∙ cents-counted _
