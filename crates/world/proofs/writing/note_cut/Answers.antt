use Rattle.std.proofs.Common.{take, drop, sym, refl}
use Rattle.std.proofs.lemmas.List.{take-append-drop}
use Rattle.world.proofs.writing.note_cut.Goals as goal

pub returns-clause-cut : goal.returns-clause-cut
returns-clause-cut c r e =
    let p = c.args.piece.now in let i = c.args.at in
    record {
      front = take i p;
      rest = drop i p;
      whole = sym (take-append-drop i p);
      prefix = rw (c.cut.ensures, e) refl;
    }
