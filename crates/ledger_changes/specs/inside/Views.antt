-- Lines of a ledger, pairs of them and their sums, as the code has them.
use Rattle.ledger_changes.specs.{Changes.Pair, Tokens.TokenSum, declared.pairs.LinePair.LinePair}
use Rattle.ledger_changes.specs.declared.row.{LedgerRow.LedgerRow, LineCharge.LineCharge}
use Rattle.ledger_changes.specs.declared.{row.LineKey.LineKey, token_sums.TokenSums.TokenSums}
use Rattle.ledger_fields.specs.Rows.{Charge, Key, Row}
use Rattle.std.specs.Prelude.{Option, option_map}

abbrev pub key_of : LineKey → Key
key_of key = record {
  token = key.token.items;
  moment = key.moment.items;
  validator = key.validator;
}

abbrev pub charge_of : LineCharge → Charge
charge_of charge = record {
  answer = charge.answer.items;
  cents = charge.cents;
  reason = charge.reason.items;
}

abbrev pub row_of : LedgerRow → Row
row_of row = record { key = key_of row.key; charge = charge_of row.charge }

abbrev pub row_in : Option LedgerRow → Option Row
row_in row = option_map row_of row

abbrev pub pair_of : LinePair → Pair
pair_of pair = record {
  key = key_of pair.key;
  before = option_map charge_of pair.before;
  after = option_map charge_of pair.after;
}

abbrev pub token_sum_of : TokenSums → TokenSum
token_sum_of sums = record {
  token = sums.token.items;
  sums = record {
    added = sums.added;
    removed = sums.removed;
    changed = sums.changed;
    before = sums.before;
    after = sums.after;
  };
}

abbrev pub sum_in : Option TokenSums → Option TokenSum
sum_in sums = option_map token_sum_of sums
