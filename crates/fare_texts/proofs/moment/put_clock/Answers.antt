use Rattle.std.proofs.Common.{◌+◌, ◌/◌, ◌%◌, [], ◌∷◌, codes}
use Rattle.jiff_fmt.specs.Text.{pad2}
use Rattle.fare_texts.proofs.MomentLemmas.{clock_put}
use Rattle.fare_texts.proofs.moment.put_clock.Goals as goal

pub returns-clause-put : goal.returns-clause-put
returns-clause-put c =
    clock_put c.args.line.now c.put.new.self c.put-2.new.self c.put-3.new.self c.put-4.new.self
    c.put-5.new.self c.put-6.new.self c.put-7.new.self c.put-8.new.self c.put-9.new.self
    c.put-10.new.self (codes "Z") (pad2 (c.args.ms % 100)) ((48 + c.args.ms / 100) ∷ [])
    (codes ".") (pad2 c.args.second) (codes ":") (pad2 c.args.minute) (pad2 c.args.hour) (codes "T")
    c.put.ensures.put (rw c.pair.ensures at c.put-2.ensures.put) c.put-3.ensures.put
    c.put-4.ensures.put (rw c.pair-2.ensures at c.put-5.ensures.put) c.put-6.ensures.put
    (rw c.pair-3.ensures at c.put-7.ensures.put) c.put-8.ensures.put
    (rw c.pair-4.ensures at c.put-9.ensures.put) c.put-10.ensures.put
