use Rattle.fare_caps.proofs.NoCapsLemmas.{replies-none, window-none}
use Rattle.fare_caps.proofs.laws.no_caps_change_nothing.Goals as goal

pub returns-clause-replies : goal.returns-clause-replies
returns-clause-replies c = replies-none

pub returns-clause-window : goal.returns-clause-window
returns-clause-window c = window-none
