-- What some lines and scripts say, read by hand.
use Rattle.std.specs.Prelude.{◌≡◌, ℕ, true, false, List, [], ◌∷◌, codes, Some, None}
use Rattle.vc_model.specs.ExactWorld.{WorldEvent}
use Rattle.vc_model.specs.ExactWorld.Letter.{FromClone, FromShared}
use Rattle.vc_model.specs.ExactWorld.WorldEvent.{Compares, Delivers, Forges, Orders, Packs, Prunes, Restarts, Steps, Stops}
use Rattle.vc_model.specs.Order.{Order}
use Rattle.vc_model.specs.Order.Order.{BranchAt, CommitIndex, DropBranch, Fetch, HeadAt, HeadOn, LoadIndex, PushItems, StageFile, StoreObject, UnstageFile}
use Rattle.vc_model.specs.World.Party.{TheClone, TheShared}
use Rattle.vc_object.specs.declared.kind.Kind.TheVariants as kinds
use Rattle.vc_rules.specs.Git.{machine_object}
use Rattle.vc_script.specs.Lines.{line_event}
use Rattle.vc_script.specs.Script.{script_of}

-- the line tells the event, in a world of twelve clones
abbrev pub Tells : List ℕ → WorldEvent → Type 0
Tells line event = line_event 12 line ≡ Some event

-- the line tells the order to the first clone
abbrev pub Asks : List ℕ → Order → Type 0
Asks line order = Tells line (Orders 0 order)

abbrev pub TellsNothing : List ℕ → Type 0
TellsNothing line = line_event 12 line ≡ None

abbrev pub OrdersByHand : Type 0
OrdersByHand =
    Asks (codes "c0 write blob 4a6B") (StoreObject (machine_object kinds.Blob (codes "Jk")))
    × Asks (codes "c0 add a/b c") (StageFile (codes "a/b") 33188 (codes "c\n"))
    × Asks (codes "c0 unstage a/b") (UnstageFile (codes "a/b"))
    × Asks (codes "c0 commit m r s") (CommitIndex (codes "r" ∷ codes "s" ∷ []) (codes "a <a> 0 +0000") (codes "a <a> 0 +0000") (codes "m"))
    × Asks (codes "c0 branch b r") (BranchAt (codes "refs/heads/b") (codes "r"))
    × Asks (codes "c0 delete b") (DropBranch (codes "refs/heads/b"))
    × Asks (codes "c0 head b") (HeadOn (codes "refs/heads/b"))
    × Asks (codes "c0 load r") (LoadIndex (codes "r"))
    × Asks (codes "c0 detach r") (HeadAt (codes "r"))
    × Asks (codes "c0 fetch") Fetch

abbrev pub PushByHand : Type 0
PushByHand =
    Asks (codes "c0 push r:s:refs/tags/t :refs/tags/u b")
    (PushItems
    false
    (record { value = Some (codes "r:s"); name = codes "refs/tags/t" }
    ∷ record { value = None; name = codes "refs/tags/u" }
    ∷ record { value = Some (codes "refs/heads/b"); name = codes "refs/heads/b" }
    ∷ []))
    × Asks (codes "c0 push-atomic b") (PushItems true (record { value = Some (codes "refs/heads/b"); name = codes "refs/heads/b" } ∷ []))

abbrev pub EventsByHand : Type 0
EventsByHand =
    Tells (codes "deliver 007") (Delivers 7)
    × Tells (codes "step 12") (Steps 12)
    × Tells (codes "restart shared") (Restarts TheShared)
    × Tells (codes "restart c11") (Restarts (TheClone 11))
    × Tells (codes "shared same r s") (Compares TheShared (codes "r") (codes "s"))
    × Tells (codes "c0 pack") (Packs (TheClone 0))
    × Tells (codes "shared pack") (Packs TheShared)
    × Tells (codes "c11 prune") (Prunes (TheClone 11))
    × Tells (codes "shared prune") (Prunes TheShared)
    × Tells (codes "stop shared 0") (Stops TheShared 0)
    × Tells (codes "stop c11 012") (Stops (TheClone 11) 12)
    × Tells (codes "forge shared c3 4a6B") (Forges (FromClone 3 (codes "Jk")))
    × Tells (codes "forge c3 shared 4a6B") (Forges (FromShared 3 (codes "Jk")))

abbrev pub RefusedByHand : Type 0
RefusedByHand =
    TellsNothing (codes "c12 fetch")
    × TellsNothing (codes "c01 fetch")
    × TellsNothing (codes "shared fetch")
    × TellsNothing (codes "c0  fetch")
    × TellsNothing (codes "c0 push")
    × TellsNothing (codes "c0 push-atomic")
    × TellsNothing (codes "c0 pack all")
    × TellsNothing (codes "c12 prune")
    × TellsNothing (codes "shared prune now")
    × TellsNothing (codes "prune shared")
    × TellsNothing (codes "c0 head b..c")
    × TellsNothing (codes "c0 write blob 4a6")
    × TellsNothing (codes "step 1234567890")
    × TellsNothing (codes "stop c12 0")
    × TellsNothing (codes "stop c0")
    × TellsNothing (codes "stop c0 1234567890")
    × TellsNothing (codes "forge shared shared 4a")
    × TellsNothing (codes "forge c0 c1 4a")
    × TellsNothing (codes "forge c12 shared 4a")
    × TellsNothing (codes "forge shared c12 4a")
    × TellsNothing (codes "forge shared c0 4")
    × TellsNothing (codes "forge shared c0")
    × TellsNothing []

abbrev pub ScriptsByHand : Type 0
ScriptsByHand =
    (script_of (codes "world 2\nc1 fetch\nstep 0") ≡ Some (2, Orders 1 Fetch ∷ Steps 0 ∷ []))
    × (script_of (codes "world 16\n") ≡ Some (16, []))
    × (script_of (codes "world 17\n") ≡ None)
    × (script_of (codes "world 0\n") ≡ None)
    × (script_of (codes "world 2\n\n") ≡ None)
    × (script_of [] ≡ None)
