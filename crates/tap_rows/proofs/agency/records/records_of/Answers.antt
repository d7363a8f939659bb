use Rattle.std.proofs.Common.{◌∙◌, sym, refl, inr}
use Rattle.csv.specs.Reading.{Reached, strip_bom}
use Rattle.tap_rows.proofs.agency.records.records_of.Goals as goal

pub returns : goal.returns
unfolding Reached
returns c =
    let fr = c.from_reader.ensures in
    record {
      left = strip_bom c.args.text.now;
      config = rw (
        c.delimiter.ensures,
        c.flexible.ensures,
        c.has_headers.ensures,
        c.new.ensures.config,
      ) at fr.config;
      trims = rw (c.delimiter.ensures, c.flexible.ensures, c.has_headers.ensures) at fr.trim
          ∙ c.new.ensures.trim;
      ready = inr
          (inr (
            rw (c.delimiter.ensures, c.flexible.ensures, c.has_headers.ensures) at
                fr.has_headers,
            fr.headers,
          ));
      source = fr.source;
      reached = (sym fr.state, refl);
    }
