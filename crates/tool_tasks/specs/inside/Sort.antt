-- Files that are loaded and made: what private functions alone cite.
use Rattle.frame.specs.{Given.Given, declared.outside.Outside.Outside}
use Rattle.report_texts.specs.Report.{upload_lines}
use Rattle.sorted_taps.specs.declared.fault.SortedFault.{SortedFault}
use Rattle.std.specs.Prelude.{ℕ, List, []}
use Rattle.tap_views.specs.declared.upload_end.UploadEnd.{UploadEnd}
use Rattle.tool_tasks.specs.Sort.{files_of}
use Rattle.tool_words.specs.Request.{SortRequest}
use Rattle.world.specs.Run.{Load}
use Rattle.frame.specs.declared.outside.Outside.TheVariants as outside
use Rattle.sorted_taps.specs.declared.fault.SortedFault.TheVariants as sorted

-- what is given of uploads that ended so, with the file of their taps
abbrev pub sorted_given : SortRequest → List Load → (note : List ℕ) → List UploadEnd → List ℕ → Given
sorted_given request loads note ends file = record {
  loads = loads;
  text = [];
  note = note;
  files = files_of request (upload_lines 0 ends) file;
}

-- what the fault of a file is to the run
abbrev pub why_of : SortedFault → Outside
why_of (sorted.OutOfOrder tap) = outside.Wrong
why_of (sorted.Layout offset fault) = outside.Wrong
why_of sorted.Unread = outside.Untraced
why_of sorted.NoMemory = outside.NoMemory
