use Rattle.std.proofs.Common.{refl}
use Rattle.class_names.proofs.Classes.{texts_more}
use Rattle.class_names.proofs.names.ClassNames.followed_by.Goals as goal

pub returns : goal.returns
returns c = λ tree other later before next. record {
  of_first = before.of_first;
  of_later = rw (c.in_ok-push.ensures.items)
      (texts_more c.args.self.later.items later _ (c.args.from, other) before.of_later
      (refl, next.of_first));
}
