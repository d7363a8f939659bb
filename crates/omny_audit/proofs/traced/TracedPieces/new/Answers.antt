use Rattle.std.proofs.Common.{[], inl, refl}
use Rattle.omny_audit.specs.inside.Traced.{uploads_in}
use Rattle.omny_audit.proofs.TraceLemmas.{none_wrong}
use Rattle.omny_audit.proofs.traced.TracedPieces.new.Goals as goal

pub returns-clause-read : goal.returns-clause-read
returns-clause-read c = record {
  lines = record {
    are = tt;
    looked = record {
      count = refl;
      class = refl;
      positions = record {
        wrong_is = none_wrong (uploads_in c.args.positions);
        named = λ none. c.requires;
      };
    };
    shown = refl;
  };
  started = [];
  kept = inl c.new-2.ensures.items;
  lacks = tt;
  split = λ more. refl;
}
