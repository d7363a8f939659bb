use Rattle.std.proofs.Common.{Option, refl, string_bytes, sym, subst, arith}
use Rattle.ledger_check.specs.FullChecks.{TakenLine}
use Rattle.ledger_check.specs.FullCheckStates.{AreSums, HasEntries}
use Rattle.ledger_check.specs.declared.open_sums.OpenSums.{OpenSums}
use Rattle.ledger_check.specs.declared.full_check_sums.FullCheckSums.{FullCheckSums}
use Rattle.ledger_check.proofs.LineSums.{right_up, room_for, taken_fits}
use Rattle.ledger_check.proofs.FullCheckLemmas.{lines_more}
use Rattle.ledger_check.proofs.lines_fed.LinesTaken.take.Goals as goal

pub find-requires-clause-taken : goal.find-requires-clause-taken
find-requires-clause-taken c = c.requires.taken

pub find-requires-clause-line : goal.find-requires-clause-line
find-requires-clause-line c = c.requires.line

pub add_entry-requires-clause-fits : goal.add_entry-requires-clause-fits
add_entry-requires-clause-fits c =
    let (taken, lines) = c.requires.taken in
    let (whole, line, same) = c.requires.line in
    let found = c.in_ok-finding.ensures.found taken whole lines line same in
    taken_fits c.args.table.now taken _ found.is

pub add_entry-requires-clause-room : goal.add_entry-requires-clause-room
add_entry-requires-clause-room c =
    let (taken, lines) = c.requires.taken in
    let (whole, line, same) = c.requires.line in
    let next : TakenLine = record {
      line = whole;
      finding = c.in_ok-finding.finding;
      wanted = string_bytes c.find.new.self.walk.wanted;
    } in
    let found = c.in_ok-finding.ensures.found taken whole lines line same in
    let sums = c.in_ok-sums.ensures taken next refl
    (subst (λ (s : FullCheckSums). AreSums s taken) (sym c.in_ok-finding.ensures.sums) lines.sums) in
    room_for c.args.table.now _ taken next (lines.are, found.is) (omega (arith, sums.few))
    (subst (λ (e : Option OpenSums). HasEntries e taken)
    (sym c.in_ok-finding.ensures.entries) lines.entries)

pub returns : goal.returns
returns c = λ taken whole lines line same.
    let finding = c.in_ok-finding.finding in
    let next : TakenLine = record {
      line = whole;
      finding = finding;
      wanted = string_bytes c.find.new.self.walk.wanted;
    } in
    let found = c.in_ok-finding.ensures.found taken whole lines line same in
    let before = subst (λ (s : FullCheckSums). AreSums s taken) (sym c.in_ok-finding.ensures.sums)
    lines.sums in
    lines_more c.args.table.now c.args.self.now _ taken whole finding lines found
    (c.in_ok-sums.ensures taken next refl before)
    (c.in_ok-add_entry.ensures taken next refl
    (λ none. right_up c.args.table.now taken next (lines.are, found.is) none lines.sums.few)
    (subst (λ (e : Option OpenSums). HasEntries e taken)
    (sym c.in_ok-finding.ensures.entries) lines.entries))
