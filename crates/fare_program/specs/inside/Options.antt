-- Options: what private functions alone cite.
use Rattle.fare_program.specs.{Options.Request, declared.options.Options.Options}
use Rattle.program_manners.specs.TableViews.{names_of}
use Rattle.std.specs.Prelude.{map, option_map}

-- what the options ask for
abbrev pub request_of : Options → Request
request_of options = record {
  table = option_map names_of options.table;
  list = options.list;
  workers = options.workers;
  shards = options.shards;
  token = option_map (λ t. t.now) options.token;
  settle = options.settle;
  live = options.live;
  sorted = options.sorted;
  ledger = options.ledger;
  explain = options.explain;
  json = options.json;
  traced = options.traced;
  tokens = option_map (λ t. t.now) options.tokens;
  files = map (λ f. f.now) options.files.items;
}
