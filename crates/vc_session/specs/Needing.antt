-- What an open push needs: a prune keeps it.
use Rattle.std.specs.Prelude.{◌++◌, ◌∷◌, [], List}
use Rattle.vc_files.specs.FileMap.{FileMap}
use Rattle.vc_object.specs.declared.id.ObjectId.{ObjectId}
use Rattle.vc_object_map.specs.Present.{IsPresentFrom}
use Rattle.vc_object_map.specs.StoreFault.{IsMetFrom}
use Rattle.vc_object_map.specs.declared.faults.StoreFault.{StoreFault}
use Rattle.vc_push.specs.Push.{CommandText}
use Rattle.vc_push_rules.specs.Quarantine.{objects_seen}
use Rattle.vc_push_rules.specs.Session.{SessionText}
use Rattle.vc_push_rules.specs.declared.stage.Verdict.{Verdict}
use Rattle.vc_push_rules.specs.declared.stage.Verdict.TheVariants.{Passing, Accepted, Refused}
use Rattle.vc_quarantine.specs.PushState.{IsDamagedSeen}

-- the new id of a command that nothing has refused
abbrev pub unrefused_id : CommandText → Verdict → List ObjectId
unrefused_id command Passing = command.new ∷ []
unrefused_id command Accepted = command.new ∷ []
unrefused_id command (Refused reason) = []

-- the same of all commands, in their order
abbrev pub unrefused_ids : List CommandText → List Verdict → List ObjectId
unrefused_ids (c ∷ cs) (v ∷ vs) = unrefused_id c v ++ unrefused_ids cs vs
unrefused_ids _ _ = []

-- such an id reaches the name, through what is stored and what the push carries, and it is there
abbrev pub IsNeededByPush : FileMap → SessionText → ObjectId → Type 0
IsNeededByPush content s id = IsPresentFrom (objects_seen content s.slot) (unrefused_ids s.commands s.verdicts) id

-- what it needs isn't found for a damaged object that such an id reaches, or for a fault
abbrev pub BlamesNeeded : FileMap → SessionText → StoreFault → Type 0
BlamesNeeded content s e = IsMetFrom (objects_seen content s.slot) (IsDamagedSeen content s.slot) (unrefused_ids s.commands s.verdicts) e
