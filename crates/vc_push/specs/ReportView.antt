-- A Report, and its reader, without where they lie in memory.
use Rattle.std.specs.Prelude.{ℕ, List, Vec, map, Option, Result, Ok, Err, option_map}
use Rattle.std.specs.Global.{Global}
use Rattle.vc_object.specs.declared.id.ObjectId.{ObjectId}
use Rattle.vc_push.specs.Report.{ToldText, ReportText, Pending as PendingText, ReportState, unpacking, telling}
use Rattle.vc_push.specs.declared.report.Told.{Told}
use Rattle.vc_push.specs.declared.report.Report.{Report}
use Rattle.vc_push.specs.declared.report_reader.Pending.{Pending}
use Rattle.vc_push.specs.declared.report_reader.Telling.{Telling}
use Rattle.vc_push.specs.declared.report_reader.ReportReader.{ReportReader}
use Rattle.vc_push.specs.declared.report_reader.ReportReader.TheVariants as readers

abbrev pub bytes_of : Option (Vec ℕ Global) → Option (List ℕ)
bytes_of words = option_map (λ w. w.items) words

abbrev pub outcome_of : Result ObjectId (Vec ℕ Global) → Result ObjectId (List ℕ)
outcome_of (Ok id) = Ok id
outcome_of (Err reason) = Err reason.items

abbrev pub told_of : Told → ToldText
told_of told = record { name = told.name.items; outcome = outcome_of told.outcome }

abbrev pub report_text : Report → ReportText
report_text report = record { unpack = bytes_of report.unpack; told = map told_of report.told.items }

abbrev pub pending_of : Pending → PendingText
pending_of pending = record { name = pending.name.items; new = pending.new }

abbrev pub telling_state : Telling → ReportState
telling_state t = telling (bytes_of t.unpack) (map told_of t.told.items) (option_map pending_of t.pending)

abbrev pub report_state : ReportReader → ReportState
report_state readers.Start = unpacking
report_state (readers.Told t) = telling_state t
