use Rattle.std.proofs.Common.{◌≡◌, ◌≤◌, ◌∙◌, ℕ, ap, false, List, [], filter, arith, map, sym}
use Rattle.account_rule.specs.{Laws.is_ride, Replies.replies, Taps.LiveTap, TokenRules.rules_of}
use Rattle.account_rule.specs.{TokenRules.token_class, declared.reply.Reply.Reply}
use Rattle.fare_caps.proofs.EmptyLemmas.{replies-empty}
use Rattle.fare_caps.specs.CapMeanings.{capped_rules_of}
use Rattle.histories.specs.Entry.{own, reply_of, taps_of}
use Rattle.histories.specs.{History.IsLegal, declared.entry.Entry.Entry}
use Rattle.shard_book.proofs.WindowsLemmas.{cents-counted, cents-of, cents-own, paid-counted}
use Rattle.shard_book.proofs.WindowsLemmas.{paid-of, replies-own}
use Rattle.tap_views.specs.{Token.bytes_of, declared.token.Token.Token}
use Rattle.tariffs.specs.Fares.{Fares, has_caps_or_prices, meaning_at, terms_at, valid_at}
use Rattle.shard_book.proofs.laws.book_keeps_limits.Goals as goal

valid_alone : (table : Fares) (moment : ℕ) → table.later ≡ []
    → meaning_at table moment ≡ table.meaning
unfolding meaning_at valid_at
valid_alone table moment alone = ap (λ later. valid_at table.meaning later moment) alone

-- under one table the token has one class, whose limits are those of each ride
one_ride_limit : (table : Fares) (token : List ℕ) (ride : LiveTap) → table.later ≡ []
    → ((rules_of table token).terms ride).rides ≤ (terms_at table.meaning token).rides
unfolding rules_of token_class
one_ride_limit table token ride alone = rw (valid_alone table ride.moment alone) (omega arith)

one_ceiling : (table : Fares) (token : List ℕ) (ride : LiveTap) → table.later ≡ []
    → ((rules_of table token).terms ride).ceiling ≤ (terms_at table.meaning token).ceiling
unfolding rules_of token_class
one_ceiling table token ride alone = rw (valid_alone table ride.moment alone) (omega arith)

-- the replies of a token's entries under a table with neither caps nor prices
plain-own : (table : Fares) (token : Token) (entries : List Entry) → IsLegal table entries
    → has_caps_or_prices table ≡ false
    → map reply_of (own token entries)
    ≡ replies (rules_of table (bytes_of token)) (taps_of table token entries)
plain-own table token entries legal none =
    replies-own table token entries legal
    ∙ replies-empty table (bytes_of token) (taps_of table token entries) none

pub returns : goal.returns
returns c = λ token.
    let book = c.args.book.now in
    let bytes = bytes_of token in
    let rules = rules_of book.table bytes in
    let capped = capped_rules_of book.table bytes in
    let taps = taps_of book.table token book.entries in
    let limits = terms_at book.table.meaning bytes in
    record {
      alone = λ none.
          let own = plain-own book.table token book.entries c.len.ensures.legal none in
          record {
            alone = λ one. record {
              rides = λ position window there. c.windows_keep_limits.ensures.rides rules taps
                  limits.rides position window there
                  (λ n ride is. one_ride_limit book.table bytes _ one);
              ceiling = λ position window there. c.windows_keep_limits.ensures.ceiling rules taps
                  limits.ceiling position window there
                  (λ n ride is. one_ceiling book.table bytes _ one);
            };
            each = c.windows_grow_within_limits.ensures rules taps;
            shared = ap (λ (replied : List Reply). filter is_ride replied) own
                ∙ c.windows_add_up.ensures.rides rules taps;
            paid = ap paid-of own ∙ paid-counted _ ∙ c.windows_add_up.ensures.paid rules taps;
            cents = ap cents-of own ∙ cents-counted _ ∙ c.windows_add_up.ensures.cents rules taps;
          };
      capped = record {
        ceilings = c.caps_keep_their_ceilings.ensures capped taps;
        shared = λ cap. c.windows_add_up-2.ensures.windows capped taps cap;
        cents = cents-own book.table token book.entries c.len.ensures.legal
            ∙ sym (c.windows_add_up-2.ensures.bill capped taps);
      };
    }
