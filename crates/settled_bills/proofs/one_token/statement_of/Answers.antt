use Rattle.std.proofs.Common.{◌≡◌, List, map, ap, refl, sym, ◌∙◌}
use Rattle.fare_caps.specs.{CapMeanings.capped_rules_of, CappedReplies.capped_window}
use Rattle.histories.specs.Entry.{own, tap_of, taps_of}
use Rattle.histories.specs.{Sums.sums, declared.entry.Entry.Entry}
use Rattle.settled_bills.proofs.OwnEntries.{own_again}
use Rattle.tap_views.specs.{Token.bytes_of, declared.token.Token.Token}
use Rattle.settled_bills.proofs.one_token.statement_of.Goals as goal

pub returns : goal.returns
unfolding taps_of
returns c = λ history is.
    let fares = c.args.table.now in
    let token = c.args.token in
    let entries = c.in_ok-entries.field-0.entries.items in
    let same : entries ≡ own token history = c.in_ok-entries.ensures.entries ∙ sym is in
    let again : own token entries ≡ own token history =
    ap (own token) same ∙ own_again token history in
    record {
      statement = record {
        token = token;
        lines = c.of.result;
        totals = c.totals_of_entries-totals.result;
        window = c.window.result;
      };
      of_history = record {
        token = refl;
        lines = c.of.ensures ∙ same;
        totals = c.totals_of_entries-totals.ensures.sums
            ∙ ap sums (c.deref.ensures.value ∙ same);
        window = c.window.ensures entries c.in_ok-entries.ensures.replay
            ∙ ap (λ (t : Token). capped_window (capped_rules_of fares (bytes_of t))
            (map (tap_of fares) (own t entries)))
            c.in_ok-entries.ensures.token
            ∙ ap (λ (es : List Entry). capped_window (capped_rules_of fares (bytes_of token))
            (map (tap_of fares) es))
            again;
      };
      shown = c.in_ok-text.ensures;
    }
