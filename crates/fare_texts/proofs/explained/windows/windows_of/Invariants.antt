use Rattle.std.proofs.Common.{◌≡◌, map, take}
use Rattle.fare_caps.specs.CapMeanings.{capped_rules_of}
use Rattle.fare_texts.specs.{Explained.earlier_windows, Explainers.HasExplained}
use Rattle.histories.specs.Entry.{tap_of}
use Rattle.tap_views.specs.Token.{bytes_of}
use Rattle.fare_texts.proofs.explained.windows.windows_of.Given as goal

-- the token's entries so far were explained, and the windows before its last one are kept
abbrev pub invariant-loop-entry : goal.invariant-loop-entry
invariant-loop-entry l = record {
  explained : HasExplained l.table l.explainer (take l.entry-index l.entries);
  of : l.explainer.token ≡ l.fn.token;
  earlier : l.earlier.items
      ≡ earlier_windows (capped_rules_of l.table (bytes_of l.fn.token))
      (map (tap_of l.table) (take l.entry-index l.entries));
}
