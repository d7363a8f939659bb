use Rattle.tap_views.proofs.run.RunTapsIterator.next.Goals as goal

pub returns-in-None-clause-steps : goal.returns-in-None-clause-steps
returns-in-None-clause-steps c = rw (← c.self.view_is, c.in-None.is) c.next_of.ensures
