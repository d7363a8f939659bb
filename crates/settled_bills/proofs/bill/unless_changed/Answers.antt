use Rattle.settled_bills.proofs.bill.unless_changed.Goals as goal

pub returns-in-Ok-check_files : goal.returns-in-Ok-check_files
returns-in-Ok-check_files g c = record {
  made = tt;
  fault = λ all are. c.from.ensures.says_nothing all;
  unwritten = c.from.ensures.unwritten;
}

pub returns : goal.returns
returns g c = record {
  made = tt;
  fault = c.in-Err-check_files.ensures.fault;
  unwritten = λ is_write. cc;
}
