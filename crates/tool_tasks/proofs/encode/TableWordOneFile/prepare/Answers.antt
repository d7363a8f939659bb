use Rattle.std.proofs.Common.{refl}
use Rattle.tool_tasks.proofs.encode.TableWordOneFile.prepare.Goals as goal

pub returns-in-Ok-clause-whole : goal.returns-in-Ok-clause-whole
returns-in-Ok-clause-whole c = record {
  text = c.args.table.now;
  loaded = refl;
  encoded = c.in-Ok.ensures.upload;
  files = refl;
  success = refl;
}
