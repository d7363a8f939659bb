use Rattle.std.specs.Io.BufRead.{drop_through}
use Rattle.tap_rows.proofs.TableLemmas.{no_bad_row_in, one_list}
use Rattle.tap_rows.proofs.laws.one_tap_table.Goals as goal

pub returns : goal.returns
returns c = record {
  taps = λ text taps others table also. one_list (drop_through 10 text) taps others table.rows
      also.rows;
  valid = no_bad_row_in;
}
