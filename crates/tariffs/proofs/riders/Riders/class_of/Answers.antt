use Rattle.std.proofs.Common.{◌∙◌, rules, sym}
use Rattle.tariffs.proofs.{RiderBytes.found-by_bytes, TokenFilter.lookup-unmarked}
use Rattle.tariffs.proofs.riders.Riders.class_of.Goals as goal

pub returns-then-not-has : goal.returns-then-not-has
returns-then-not-has c =
    let entries = c.self.inside.classes.entries in
    sym (lookup-unmarked c.self.inside.marks c.of-token.result entries c.self.invariant.marked
    (search rules))
    ∙ found-by_bytes c.of-token.result entries _ _ c.of-token.ensures.fits c.self.invariant.fits
    c.of-token.ensures.bytes c.self.view_is

pub returns-in-Some : goal.returns-in-Some
returns-in-Some c =
    c.in-Some.ensures.value
    ∙ found-by_bytes c.of-token.result c.self.inside.classes.entries _ _ c.of-token.ensures.fits
    c.self.invariant.fits c.of-token.ensures.bytes c.self.view_is

pub returns-in-None : goal.returns-in-None
returns-in-None c =
    c.in-None.ensures.value
    ∙ found-by_bytes c.of-token.result c.self.inside.classes.entries _ _ c.of-token.ensures.fits
    c.self.invariant.fits c.of-token.ensures.bytes c.self.view_is
