-- A play from its beginning, from a new world and a run of it.
use Rattle.std.proofs.Common.{◌≡◌, ◌+◌, ◌<◌, ℕ, Bool, true, false, List, [], ◌∷◌, None, Result, Err, IfErr, inl, inr, length, get_or, refl, sym, ap, subst, arith}
use Rattle.std.specs.List.{AllByRecursion, remove}
use Rattle.vc_events.specs.Running.{RunsSafely}
use Rattle.vc_events.specs.Calls.{Seen}
use Rattle.vc_events.specs.World.{AreFresh, IsNewWorld, fresh_clone, fresh_shared}
use Rattle.vc_events.specs.declared.answers.Answer.{Answer as WorldAnswer}
use Rattle.vc_events.specs.declared.events.Event.{Event}
use Rattle.vc_events.specs.declared.world.World.{World}
use Rattle.vc_files.specs.Failures.{unstopped}
use Rattle.vc_files.specs.FileMap.{FileMap}
use Rattle.vc_files.specs.Fused.{Fused}
use Rattle.vc_files.specs.declared.faults.Fault.{Fault as FilesFault}
use Rattle.vc_files.specs.declared.faults.Fault.TheVariants.{Memory}
use Rattle.vc_lemmas.proofs.Lists.{all_map}
use Rattle.vc_model.specs.Clone.{CloneNode}
use Rattle.vc_model.specs.Shared.{SharedNode}
use Rattle.vc_rules.specs.Stops.{IsBelow}
use Rattle.vc_simulation.specs.Memory.{PlaysSafely, memory_clone, memory_shared}
use Rattle.vc_simulation.specs.Nodes.{BeginsAs, IsMemoryUnless}
use Rattle.vc_simulation.specs.declared.world_clone.WorldClone.{WorldClone}
use Rattle.vc_simulation.specs.declared.world_shared.WorldShared.{WorldShared}

-- ---- new nodes

-- files in memory don't stop by themselves, nor can they fail
pub memory_below : IsBelow (λ (files : FileMap). ⊥) unstopped false
memory_below = record { unstopped = λ files. refl; calm = λ files never. absurd never }

pub are_fresh : {S C : Type 0} (hs : Seen S SharedNode) (hc : Seen C CloneNode) (frail : Bool) (shared : S) (clones : List C)
    → BeginsAs hs frail shared fresh_shared → AllByRecursion (λ c. BeginsAs hc frail c fresh_clone) clones → AreFresh hs hc frail shared clones
are_fresh hs hc frail shared clones one all = record {
  shared_new = one.may_be;
  shared_unstopped = one.unstopped;
  clones_new = all_map (λ c. BeginsAs hc frail c fresh_clone) (λ c. hc.may_be frail c fresh_clone) clones (λ c begins. begins.may_be) all;
  clones_unstopped = all_map (λ c. BeginsAs hc frail c fresh_clone) (λ c. hc.left c ≡ None) clones (λ c begins. begins.unstopped) all;
}

-- ---- a list of files

-- the first of a list of which each passes
pub first_passes : {X : Type 0} (P : X → Type 0) (xs : List X) (x : X) → 1 < length xs → AllByRecursion P xs → x ≡ get_or xs 0 x → P x
first_passes P [] x some all is = absurd (omega (arith, some))
first_passes P (y ∷ ys) x some all is = subst P (sym is) all.0

-- the others of it
pub others_pass : {X : Type 0} (P : X → Type 0) (xs ys : List X) → AllByRecursion P xs → ys ≡ remove xs 0 → AllByRecursion P ys
others_pass P [] ys all is = subst (AllByRecursion P) (sym is) tt
others_pass P (x ∷ xs) ys all is = subst (AllByRecursion P) (sym is) all.1

-- there are one less of them, and there is one
pub one_less : {X : Type 0} (xs ys : List X) → 1 < length xs → ys ≡ remove xs 0 → (length ys + 1 ≡ length xs) × (0 < length ys)
one_less [] ys some is = absurd (omega (arith, some))
one_less (x ∷ xs) ys some is = let same : length ys ≡ length xs = ap length is in (omega (arith, same), omega (arith, same, some))

-- what holds of the error
pub by_error : {X E : Type 0} (P : E → Type 0) (r : Result X E) (e : E) → r ≡ Err e → P e → IfErr r P
by_error {X} {E} P r e is holds = subst (λ (r : Result X E). IfErr r P) (sym is) holds

-- what ends over files that can't fail by themselves is want of memory
pub memory_alone : (fault : FilesFault) → IsMemoryUnless false fault → fault ≡ Memory
memory_alone fault (inl is) = is
memory_alone fault (inr never) = let f : false ≡ true = never in absurd (cc f)

-- ---- a play

-- the run of no events is lengthened
pub plays_safely : (n : ℕ) (es : List Event) (said : List WorldAnswer) (old new : World (WorldShared (Fused FileMap)) (WorldClone (Fused FileMap)))
    → IsNewWorld memory_shared memory_clone n false old → RunsSafely memory_shared memory_clone old es said new → PlaysSafely n es said new
plays_safely n es said old new fresh run =
    let k = run.each n fresh.start [] fresh.is_new tt fresh.held in
    record { start = fresh.start; is_new = fresh.is_new; calm = fresh.frail_is; unstopped_yet = fresh.unfused; history = k.0; lengthened = k.1; held = k.2; safe = k.3 }
