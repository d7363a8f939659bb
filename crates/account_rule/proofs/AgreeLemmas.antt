-- Rules that say the same of each tap of a list give it the same trips, windows, charges and
-- replies.
use Rattle.std.proofs.Common.{◌≡◌, ℕ, suc, ◌+◌, ◌<◌, Bool, true, false, ◌&&◌, cond, List, [], ◌∷◌}
use Rattle.std.proofs.Common.{◌++◌, Option, Some, None, refl, ap, ◌∙◌, All, arith, is_some, length}
use Rattle.std.proofs.Common.{nat_le, nat_lt, option_map, take, ◌-◌}
use Rattle.account_rule.specs.{Agreement.AgreeAt, Agreement.AgreeOn, Blocks.blocks_by}
use Rattle.account_rule.specs.{Blocks.blocks_from, Blocks.last_block, Replies.live_reply}
use Rattle.account_rule.specs.Replies.{replies, replies_after, reply, reply_with, ride_reply}
use Rattle.account_rule.specs.Taps.{LiveTap, is_later, live, live_after, live_at, live_tap}
use Rattle.account_rule.specs.TokenRules.{TokenRules, permits_of, rules_of, token_class}
use Rattle.account_rule.specs.TokenRules.{transfers_of}
use Rattle.account_rule.specs.Trips.{continues, ends_in_transfer, last_tap, rides, trips}
use Rattle.account_rule.specs.Windows.{charge, charged_by, charges, charges_after, is_within}
use Rattle.account_rule.specs.{Windows.paid_by, Windows.windows, declared.reason.Charge.Charge}
use Rattle.account_rule.specs.declared.reply.Answer.TheVariants.{Stale, Transfer, Unknown}
use Rattle.account_rule.specs.declared.tap.TapIn.{TapIn}
use Rattle.std.proofs.lemmas.{Bool.leb-true, List.Elements.All-head, List.Elements.All-tail}
use Rattle.std.specs.{List.flat_map, List.last_or, Option.option_and_then, Option.option_to_list}
use Rattle.tariffs.specs.Fares.{Fares, class_of, is_permitted, meaning_at, ride_terms}
use Rattle.tariffs.specs.Fares.{transfer_terms, valid_at}
use Rattle.tariffs.specs.{Following.with_next, TableMeaning.TableMeaning, Until.window_end_in}
use Rattle.tariffs.specs.declared.{mode.Mode.Mode, terms.Terms.Terms}

-- each element of the list is such a one
abbrev Each : {A : Type 0} → (A → Type 0) → List A → Type 0
Each P [] = Unit {0}
Each P (x ∷ xs) = P x × Each P xs

each-append : {A : Type 0} (P : A → Type 0) (xs ys : List A) → Each P xs → Each P ys
    → Each P (xs ++ ys)
each-append P [] ys one two = two
each-append P (x ∷ xs) ys one two = (one.0, each-append P xs ys one.1 two)

each-all : {A : Type 0} (P : A → Type 0) (xs : List A) → All P xs → Each P xs
each-all P [] all = tt
each-all P (x ∷ xs) all = (All-head P x xs all, each-all P xs (All-tail P x xs all))

-- ---- blocks
blocks-same : {A : Type 0} (P : A → Type 0) (joins also : List A → A → Bool) (block xs : List A)
    → ((b : List A) (x : A) → Each P b → P x → joins b x ≡ also b x)
    → Each P block → Each P xs → blocks_from joins block xs ≡ blocks_from also block xs
unfolding blocks_from
blocks-same P joins also block [] same first rest = refl
blocks-same P joins also block (x ∷ xs) same first rest =
    let one = blocks-same P joins also (block ++ x ∷ []) xs same
    (each-append P block (x ∷ []) first (rest.0, tt)) rest.1 in
    let two = blocks-same P joins also (x ∷ []) xs same (rest.0, tt) rest.1 in
    let join = same block x first rest.0 in
    λ i. cond (join i) (one i) (block ∷ two i)

blocks_by-same : {A : Type 0} (P : A → Type 0) (joins also : List A → A → Bool) (xs : List A)
    → ((b : List A) (x : A) → Each P b → P x → joins b x ≡ also b x)
    → Each P xs → blocks_by joins xs ≡ blocks_by also xs
unfolding blocks_by
blocks_by-same P joins also [] same all = refl
blocks_by-same P joins also (x ∷ xs) same all =
    blocks-same P joins also (x ∷ []) xs same (all.0, tt) all.1

each-if : {A : Type 0} (P : A → Type 0) (b : Bool) (xs ys : List A) → Each P xs → Each P ys
    → Each P (cond b xs ys)
each-if P true xs ys one two = one
each-if P false xs ys one two = two

blocks-each : {A : Type 0} (P : A → Type 0) (joins : List A → A → Bool) (block xs : List A)
    → Each P block → Each P xs → Each (Each P) (blocks_from joins block xs)
unfolding blocks_from
blocks-each P joins block [] first rest = (first, tt)
blocks-each P joins block (x ∷ xs) first rest =
    each-if (Each P) (joins block x) (blocks_from joins (block ++ x ∷ []) xs)
    (block ∷ blocks_from joins (x ∷ []) xs)
    (blocks-each P joins (block ++ x ∷ []) xs (each-append P block (x ∷ []) first (rest.0, tt))
    rest.1)
    (first, blocks-each P joins (x ∷ []) xs (rest.0, tt) rest.1)

blocks_by-each : {A : Type 0} (P : A → Type 0) (joins : List A → A → Bool) (xs : List A)
    → Each P xs → Each (Each P) (blocks_by joins xs)
unfolding blocks_by
blocks_by-each P joins [] all = tt
blocks_by-each P joins (x ∷ xs) all = blocks-each P joins (x ∷ []) xs (all.0, tt) all.1

each-first : {A : Type 0} (P : A → Type 0) (xs : List A) → Each P xs → Each P (take 1 xs)
each-first P [] all = tt
each-first P (x ∷ xs) all = (all.0, tt)

firsts-each : {A : Type 0} (P : A → Type 0) (blocks : List (List A)) → Each (Each P) blocks
    → Each P (flat_map (λ block. take 1 block) blocks)
firsts-each P [] all = tt
firsts-each P (block ∷ blocks) all =
    each-append P (take 1 block) (flat_map (λ b. take 1 b) blocks) (each-first P block all.0)
    (firsts-each P blocks all.1)

last_block-each : {A : Type 0} (P : A → Type 0) (blocks : List (List A)) → Each (Each P) blocks
    → Each P (last_block blocks)
unfolding last_block
last_block-each P [] all = tt
last_block-each P (block ∷ []) all = all.0
last_block-each P (block ∷ next ∷ blocks) all = last_block-each P (next ∷ blocks) all.1

-- ---- live taps
each-tap : (P : LiveTap → Type 0) (moment : ℕ) (later : Bool) (mode : Option Mode)
    → ((m : Mode) → mode ≡ Some m → P (live_at moment m))
    → Each P (option_to_list (cond later (option_map (live_at moment) mode) None))
each-tap P moment false mode all = tt
each-tap P moment true None all = tt
each-tap P moment true (Some mode) all = (all mode refl, tt)

live-each : (P : LiveTap → Type 0) (earlier taps : List TapIn)
    → Each (λ (tap : TapIn). (m : Mode) → tap.mode ≡ Some m → P (live_at tap.moment m)) taps
    → Each P (live_after earlier taps)
unfolding live_after live_tap
live-each P earlier [] all = tt
live-each P earlier (tap ∷ taps) all =
    each-append P (option_to_list (live_tap earlier tap)) (live_after (earlier ++ tap ∷ []) taps)
    (each-tap P tap.moment (is_later earlier tap.moment) tap.mode all.0)
    (live-each P (earlier ++ tap ∷ []) taps all.1)

-- ---- trips, windows and charges of rules that agree
continues-same : (rules other : TokenRules) (trip : List LiveTap) (tap : LiveTap)
    → AgreeAt rules other tap
    → continues rules.transfers trip tap ≡ continues other.transfers trip tap
unfolding continues
continues-same rules other [] tap agree = refl
continues-same rules other (ride ∷ given) tap agree =
    let permits = agree.permits (last_tap ride given).mode in
    λ i. nat_lt (length given) (agree.count i)
    && nat_le (tap.moment - ride.moment) (agree.time i) && permits i

is_within-same : (rules other : TokenRules) (window : List LiveTap) (ride : LiveTap)
    → Each (AgreeAt rules other) window
    → is_within rules.until window ride ≡ is_within other.until window ride
unfolding is_within
is_within-same rules other [] ride agree = refl
is_within-same rules other (first ∷ window) ride agree =
    λ i. nat_lt ride.moment (agree.0.until i)

charges-same : (rules other : TokenRules) (count cents : ℕ) (window : List LiveTap)
    → Each (AgreeAt rules other) window
    → charges_after rules.terms count cents window ≡ charges_after other.terms count cents window
unfolding charges_after
charges-same rules other count cents [] agree = refl
charges-same rules other count cents (ride ∷ window) agree =
    ap (λ (terms : Terms). charge terms count cents
    ∷ charges_after rules.terms (suc count) (cents + charged_by (charge terms count cents)) window)
    agree.0.terms
    ∙ ap (λ (cs : List Charge). charge (other.terms ride) count cents ∷ cs)
    (charges-same rules other (suc count)
    (cents + charged_by (charge (other.terms ride) count cents)) window agree.1)

trips-same : (rules other : TokenRules) (taps : List TapIn) → Each (AgreeAt rules other) (live taps)
    → trips rules taps ≡ trips other taps
unfolding trips
trips-same rules other taps agree =
    blocks_by-same (AgreeAt rules other) (continues rules.transfers) (continues other.transfers)
    (live taps) (λ block tap _ at. continues-same rules other block tap at) agree

rides-each : (rules other : TokenRules) (taps : List TapIn) → Each (AgreeAt rules other) (live taps)
    → Each (AgreeAt rules other) (rides rules taps)
unfolding rides trips
rides-each rules other taps agree =
    firsts-each (AgreeAt rules other) (trips rules taps)
    (blocks_by-each (AgreeAt rules other) (continues rules.transfers) (live taps) agree)

rides-same : (rules other : TokenRules) (taps : List TapIn) → Each (AgreeAt rules other) (live taps)
    → rides rules taps ≡ rides other taps
unfolding rides
rides-same rules other taps agree =
    ap (λ (ts : List (List LiveTap)). flat_map (λ trip. take 1 trip) ts)
    (trips-same rules other taps agree)

windows-same : (rules other : TokenRules) (taps : List TapIn)
    → Each (AgreeAt rules other) (live taps) → windows rules taps ≡ windows other taps
unfolding windows
windows-same rules other taps agree =
    blocks_by-same (AgreeAt rules other) (is_within rules.until) (is_within other.until)
    (rides rules taps) (λ block ride all _. is_within-same rules other block ride all)
    (rides-each rules other taps agree)
    ∙ ap (λ (rs : List LiveTap). blocks_by (is_within other.until) rs)
    (rides-same rules other taps agree)

last_window-each : (rules other : TokenRules) (taps : List TapIn)
    → Each (AgreeAt rules other) (live taps)
    → Each (AgreeAt rules other) (last_block (windows rules taps))
unfolding windows
last_window-each rules other taps agree =
    last_block-each (AgreeAt rules other) (windows rules taps)
    (blocks_by-each (AgreeAt rules other) (is_within rules.until) (rides rules taps)
    (rides-each rules other taps agree))

last_charges-same : (rules other : TokenRules) (taps : List TapIn)
    → Each (AgreeAt rules other) (live taps)
    → charges rules.terms (last_block (windows rules taps))
    ≡ charges other.terms (last_block (windows other taps))
unfolding charges
last_charges-same rules other taps agree =
    charges-same rules other 0 0 (last_block (windows rules taps))
    (last_window-each rules other taps agree)
    ∙ ap (λ (ws : List (List LiveTap)). charges_after other.terms 0 0 (last_block ws))
    (windows-same rules other taps agree)

-- ---- replies
live_reply-same : (rules other : TokenRules) (taps : List TapIn)
    → Each (AgreeAt rules other) (live taps) → live_reply rules taps ≡ live_reply other taps
unfolding live_reply ends_in_transfer
live_reply-same rules other taps agree =
    let parts = trips-same rules other taps agree in
    let costs = last_charges-same rules other taps agree in
    λ i. cond (nat_lt 1 (length (last_block (parts i)))) (reply_with Transfer 0)
    (ride_reply (option_and_then paid_by (last_or None (costs i))))

pub reply-same : (rules other : TokenRules) (earlier : List TapIn) (tap : TapIn)
    → Each (AgreeOn rules other) (earlier ++ tap ∷ [])
    → reply rules earlier tap ≡ reply other earlier tap
unfolding reply live
reply-same rules other earlier tap agree =
    let same = live_reply-same rules other (earlier ++ tap ∷ [])
    (live-each (AgreeAt rules other) [] (earlier ++ tap ∷ []) agree) in
    λ i. cond (is_some tap.mode) (cond (is_later earlier tap.moment) (same i) (reply_with Stale 0))
    (reply_with Unknown 0)

replies_after-same : (rules other : TokenRules) (earlier taps : List TapIn)
    → Each (AgreeOn rules other) earlier → Each (AgreeOn rules other) taps
    → replies_after rules earlier taps ≡ replies_after other earlier taps
unfolding replies_after
replies_after-same rules other earlier [] before agree = refl
replies_after-same rules other earlier (tap ∷ taps) before agree =
    let all = each-append (AgreeOn rules other) earlier (tap ∷ []) before (agree.0, tt) in
    let one = reply-same rules other earlier tap all in
    let more = replies_after-same rules other (earlier ++ tap ∷ []) taps all agree.1 in
    λ i. one i ∷ more i

pub replies-alike : (rules other : TokenRules) (taps : List TapIn) → All (AgreeOn rules other) taps
    → replies rules taps ≡ replies other taps
unfolding replies
replies-alike rules other taps agree =
    replies_after-same rules other [] taps tt (each-all (AgreeOn rules other) taps agree)

-- ---- a table that is not valid yet
valid-waits : (meaning : TableMeaning) (later : List (ℕ × TableMeaning)) (from : ℕ)
    (next : TableMeaning) (moment : ℕ) → moment < from
    → valid_at meaning (later ++ (from, next) ∷ []) moment ≡ valid_at meaning later moment
unfolding valid_at
valid-waits meaning [] from next moment before =
    not_yet (nat_le from moment) refl
  where
    not_yet : (b : Bool) → nat_le from moment ≡ b → cond b next meaning ≡ meaning
    not_yet true is = let started = leb-true from moment is in absurd (omega arith)
    not_yet false is = refl
valid-waits meaning (one ∷ later) from next moment before =
    let rest = valid-waits one.1 later from next moment before in
    λ i. cond (nat_le one.0 moment) (rest i) meaning

pub meaning-waits : (fares : Fares) (from : ℕ) (next : TableMeaning) (moment : ℕ) → moment < from
    → meaning_at (with_next fares from next) moment ≡ meaning_at fares moment
unfolding meaning_at
meaning-waits fares from next moment before =
    valid-waits fares.meaning fares.later from next moment before

pub rules-wait : (fares : Fares) (from : ℕ) (next : TableMeaning) (token : List ℕ) (tap : LiveTap)
    → tap.moment < from
    → AgreeAt (rules_of (with_next fares from next) token) (rules_of fares token) tap
unfolding rules_of transfers_of permits_of token_class
rules-wait fares from next token tap before =
    let same = meaning-waits fares from next tap.moment before in
    record {
      terms = λ i. ride_terms (same i) (class_of (same i) token) tap.mode.position;
      count = λ i. (transfer_terms (same i) (class_of (same i) token)).taps;
      time = λ i. (transfer_terms (same i) (class_of (same i) token)).time;
      permits = λ mode i. is_permitted (same i) mode.position tap.mode.position;
      until = λ i. window_end_in fares.zone (same i).window tap.moment;
    }

pub next-waits : (fares : Fares) (from : ℕ) (next : TableMeaning) (token : List ℕ)
    (taps : List TapIn) → All (λ tap. tap.moment < from) taps
    → replies (rules_of (with_next fares from next) token) taps
    ≡ replies (rules_of fares token) taps
unfolding live_at
next-waits fares from next token taps before =
    replies-alike (rules_of (with_next fares from next) token) (rules_of fares token) taps
    (λ k d below mode known. rules-wait fares from next token _ (before k d below))
