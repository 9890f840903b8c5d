-- What a clone awaits, and what that is to the machine.
use Rattle.std.specs.Prelude.{◌≡◌, List}
use Rattle.vc_tracking.specs.Moving.{Told, told_in}
use Rattle.vc_exchange.specs.Receiving.{AreRefs, awaited_pack}
use Rattle.vc_model.specs.Clone.{Awaited}
use Rattle.vc_model.specs.Clone.Awaited.{AnAdvert, Nothing}
use Rattle.vc_model.specs.Refs.{Refs}
use Rattle.vc_object.specs.declared.id.ObjectId.{ObjectId}
use Rattle.vc_node.specs.declared.awaited.Awaited.{Awaited as Waiting}
use Rattle.vc_node.specs.declared.awaited.Awaited.TheVariants as of

-- what is awaited, without where it lies in memory
pub data AwaitedText : Type 0 where
  nothing : AwaitedText
  an_advert : AwaitedText
  -- the pack of these wants, after which these refs follow
  a_pack : (wants : List ObjectId) (refs : List Told) → AwaitedText

abbrev pub awaited_text : Waiting → AwaitedText
awaited_text of.Nothing = nothing
awaited_text of.Advert = an_advert
awaited_text (of.Pack wants refs) = a_pack wants.items (told_in refs.items)

-- the machine's clone awaits the same
abbrev pub IsAwaited : AwaitedText → Awaited → Type 0
IsAwaited nothing awaited = awaited ≡ Nothing
IsAwaited an_advert awaited = awaited ≡ AnAdvert
IsAwaited (a_pack wants told) awaited = (refs : Refs) × AreRefs refs told × (awaited ≡ awaited_pack wants refs)
