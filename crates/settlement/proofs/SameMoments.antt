-- A known tap behind a twin is stale.
use Rattle.std.proofs.Common.{◌≡◌, ℕ, ◌≤◌, true, false, List, ◌∷◌, ◌++◌, map, filter, nat_lt, refl}
use Rattle.std.proofs.Common.{sym, ap, ◌∙◌, arith, Option, Some, None}
use Rattle.account_rule.proofs.StepLemmas.{reply_stale}
use Rattle.account_rule.specs.{Replies.reply_with, Taps.is_later, TokenRules.rules_of}
use Rattle.account_rule.specs.declared.reply.{Answer.TheVariants.Stale, Reply.Reply}
use Rattle.account_rule.specs.declared.tap.TapIn.{TapIn}
use Rattle.fare_caps.proofs.AnswerLemmas.{stale-capped}
use Rattle.fare_caps.specs.{CapMeanings.capped_rules_of, CappedReplies.capped_reply}
use Rattle.histories.specs.Entry.{is_of, mode_of_position, own, tap_of, taps_of}
use Rattle.histories.specs.{History.IsLegal, History.IsReplied, declared.entry.Entry.Entry}
use Rattle.settlement.proofs.Contained.{kept_there, mapped_there, not_all}
use Rattle.settlement.proofs.Own.{own_entry}
use Rattle.settlement.specs.SameMoments.{HasSameMoment}
use Rattle.std.proofs.lemmas.Bool.{le-ltb}
use Rattle.std.specs.{List.Contains, Prelude.is_some, Prelude.option_map}
use Rattle.tap_views.specs.{Token.bytes_of, declared.token.Token.Token}
use Rattle.tariffs.specs.Fares.{Fares, mode_at}

known_position : (o : Option ℕ) → is_some o ≡ true → is_some (option_map mode_of_position o) ≡ true
known_position None known = known
known_position (Some position) known = refl

-- a known tap of the token that is not before the moment
not_later : (fares : Fares) (moment : ℕ) (before : List Entry) (other : Entry)
    → Contains before other → is_some (mode_at fares other.moment other.validator) ≡ true
    → moment ≤ other.moment → is_later (taps_of fares other.token before) moment ≡ false
unfolding is_later taps_of own tap_of
not_later fares moment before other there known late =
    let mine = filter (is_of other.token) before in
    let of_token = kept_there (is_of other.token) before other (own_entry other) there in
    let taps = mapped_there (tap_of fares) mine other of_token in
    let known_taps = kept_there (λ (tap : TapIn). is_some tap.mode) (map (tap_of fares) mine)
    (tap_of fares other) (known_position (mode_at fares other.moment other.validator) known) taps in
    not_all (λ (tap : TapIn). nat_lt tap.moment moment)
    (filter (λ (tap : TapIn). is_some tap.mode) (map (tap_of fares) mine)) (tap_of fares other)
    known_taps (le-ltb other.moment moment late)

-- the answer to a known tap that is not later
stale_answer : (fares : Fares) (earlier : List TapIn) (entry : Entry) (position : Option ℕ)
    → mode_at fares entry.moment entry.validator ≡ position → is_some position ≡ true
    → is_later earlier entry.moment ≡ false
    → (capped_reply (capped_rules_of fares (bytes_of entry.token)) earlier
    (tap_of fares entry)).answer
    ≡ Stale
unfolding tap_of reply_with capped_rules_of
stale_answer fares earlier entry None at known not = absurd (cc)
stale_answer fares earlier entry (Some position) at known not =
    stale-capped (capped_rules_of fares (bytes_of entry.token)) earlier (tap_of fares entry)
    (ap (λ (r : Reply). r.answer)
    (reply_stale (rules_of fares (bytes_of entry.token)) earlier (tap_of fares entry)
    (mode_of_position position) (ap (option_map mode_of_position) at) not))

pub same_moment_is_stale : (fares : Fares) (before : List Entry) (entry : Entry)
    (after : List Entry)
    → IsLegal fares (before ++ entry ∷ after) → HasSameMoment fares before entry
    → is_some (mode_at fares entry.moment entry.validator) ≡ true → entry.answer ≡ Stale
unfolding IsReplied
same_moment_is_stale fares before entry after legal same_moment known =
    let not : is_later (taps_of fares entry.token before) entry.moment ≡ false =
    ap (λ (t : Token). is_later (taps_of fares t before) entry.moment) (sym same_moment.token)
    ∙ not_later fares entry.moment before same_moment.other same_moment.there same_moment.known
    (omega (arith, same_moment.moment)) in
    ap (λ (r : Reply). r.answer) (legal.each before entry after refl)
    ∙ stale_answer fares (taps_of fares entry.token before) entry
    (mode_at fares entry.moment entry.validator)
    refl known not
