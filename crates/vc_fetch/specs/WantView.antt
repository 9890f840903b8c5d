-- A Want, and its reader, without where they lie in memory.
use Rattle.vc_fetch.specs.Want.{WantText, WantState, wanting, having}
use Rattle.vc_fetch.specs.declared.want.Want.{Want}
use Rattle.vc_fetch.specs.declared.want.WantReader.{WantReader}
use Rattle.vc_fetch.specs.declared.want.WantReader.TheVariants.{Wanting, Having}

abbrev pub want_text : Want → WantText
want_text want = record { wants = want.wants.items; haves = want.haves.items }

abbrev pub want_state : WantReader → WantState
want_state (Wanting wants) = wanting wants.items
want_state (Having wants haves) = having wants.items haves.items
