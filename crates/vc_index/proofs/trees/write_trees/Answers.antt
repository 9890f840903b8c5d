use Rattle.std.proofs.Common.{rules}
use Rattle.std.proofs.Common.{◌≡◌, ◌⊎◌, [], map, refl, ap, ◌∙◌, inl}
use Rattle.std.specs.Prelude.{⊤}
use Rattle.std.specs.FinMap.{entries}
use Rattle.vc_files.proofs.WearLemmas.{writes_both, writes_none, writes_told}
use Rattle.vc_object.specs.Tree.{spelling}
use Rattle.vc_object.specs.declared.id.ObjectId.{ObjectId}
use Rattle.vc_object_map.specs.Store.{objects, IsDamaged}
use Rattle.vc_index.specs.IndexMap.{index_of}
use Rattle.vc_index.specs.Part.{part_entry}
use Rattle.vc_files.specs.declared.faults.Fault.TheVariants.{Device}
use Rattle.vc_object_map.specs.declared.faults.StoreFault.TheVariants.{Fault}
use Rattle.vc_index.specs.WrittenTrees.{IsBegun, IsOfWrite, MayHaveBegun}
use Rattle.vc_index.specs.declared.faults.IndexFault.TheVariants.{Store}
use Rattle.vc_index.proofs.ClosingLemmas.{building_starts, written, handed_on, still_damaged}
use Rattle.vc_index.proofs.StandingLemmas.{root_refused, stands_none}
use Rattle.vc_index.proofs.FittingLemmas.{cause_of_any, joining_no_device, no_size_left}
use Rattle.vc_index.proofs.DamageLemmas.{damage_same, damage_then, damage_put}
use Rattle.vc_object.specs.declared.kind.Kind.TheVariants as kinds
use Rattle.vc_index.proofs.trees.write_trees.Goals as goal

pub returns-in_err-check_sizes-clause-begun : goal.returns-in_err-check_sizes-clause-begun
returns-in_err-check_sizes-clause-begun g c =
    let m = index_of c.args.map.now in
    let old = objects (g.F.Files.content c.args.files.now) in
    let none = stands_none g.F.Files.honest m (entries m) [] [] old old (building_starts m c.requires) (λ _. refl) in
    let begun : IsBegun g.F.Files.honest m old old = record { trees = none.more; lower = none.below; first = none.first; fits = none.fits; stored = none.stored } in
    search (rules, begun)

pub returns-in_err-check_sizes-clause-refused : goal.returns-in_err-check_sizes-clause-refused
returns-in_err-check_sizes-clause-refused g c =
    let fault = c.in_err-check_sizes.field-0.0 in
    let Damage = λ (id : ObjectId). g.F.Files.honest → IsDamaged (g.F.Files.content c.args.files.now) id in
    handed_on (IsOfWrite (index_of c.args.map.now) Damage) fault c.from_residual.result c.from_residual.ensures.1 (cause_of_any (index_of c.args.map.now) Damage fault c.in_err-check_sizes.ensures.refused)

pub returns-in_err-check_sizes-clause-wear : goal.returns-in_err-check_sizes-clause-wear
returns-in_err-check_sizes-clause-wear g c =
    let quiet : c.in_err-check_sizes.field-0.0 ≡ Store (Fault Device) → ⊥ = joining_no_device c.in_err-check_sizes.field-0.0 c.in_err-check_sizes.ensures.fault in
    writes_none (search (rules, quiet))

pub returns-in_err-parts-clause-unchanged : goal.returns-in_err-parts-clause-unchanged
returns-in_err-parts-clause-unchanged g c = λ honest.
    let left = no_size_left (index_of c.args.map.now) c.requires c.in_ok-check_sizes.ensures.fits _ c.in_err-parts.field-0.0 c.in_err-parts.ensures.refused in
    search (rules, left)

pub returns-in_err-id-clause-unchanged : goal.returns-in_err-id-clause-unchanged
returns-in_err-id-clause-unchanged g c = λ honest.
    let content = g.F.Files.content in
    let m = index_of c.args.map.now in
    let closes = c.in_ok-parts.ensures.closed in
    let fault = c.in_err-id.field-0.0 in
    let is : c.deref-2.result.now ≡ spelling (map part_entry c.in_ok-parts.parts.items) = c.deref-2.ensures.value ∙ c.in_ok-body.ensures ∙ ap (λ ps. spelling (map part_entry ps)) c.deref.ensures.value in
    let why = root_refused m closes.more c.in_ok-parts.parts.items closes.building c.in_ok-parts.ensures.inside (λ _. ⊤) c.deref-2.result.now fault closes.fits is c.in_err-id.ensures.answers.refused (λ _ _. tt) in
    handed_on (λ e. MayHaveBegun e ⊎ (content c.put.new.files ≡ content c.args.files.now)) (Store fault) c.from_residual-in_err-id.result c.from_residual-in_err-id.ensures.1
    (inl (no_size_left m c.requires c.in_ok-check_sizes.ensures.fits (λ _. ⊤) (Store fault) why))

pub returns-clause-written : goal.returns-clause-written
returns-clause-written g c =
    let is : c.deref-2.result.now ≡ spelling (map part_entry c.in_ok-parts.parts.items) = c.deref-2.ensures.value ∙ c.in_ok-body.ensures ∙ ap (λ ps. spelling (map part_entry ps)) c.deref.ensures.value in
    rw c.named.ensures.same (written g.F.Files.honest (index_of c.args.map.now) c.in_ok-parts.parts.items (objects (g.F.Files.content c.args.files.now)) (objects (g.F.Files.content c.root_parts.new.files)) (objects (g.F.Files.content c.put.new.files)) c.in_ok-id.id c.deref-2.result.now
    c.in_ok-parts.ensures.closed c.in_ok-parts.ensures.inside is c.in_ok-id.ensures.answers.name (c.in_ok-id.ensures.answers.legal refl).size c.in_ok-id.ensures.puts.objects)

pub returns-in_err-id-clause-refused : goal.returns-in_err-id-clause-refused
returns-in_err-id-clause-refused g c =
    let content = g.F.Files.content in
    let m = index_of c.args.map.now in
    let closes = c.in_ok-parts.ensures.closed in
    let fault = c.in_err-id.field-0.0 in
    let Damage = λ (id : ObjectId). g.F.Files.honest → IsDamaged (content c.put.new.files) id in
    let is : c.deref-2.result.now ≡ spelling (map part_entry c.in_ok-parts.parts.items) = c.deref-2.ensures.value ∙ c.in_ok-body.ensures ∙ ap (λ ps. spelling (map part_entry ps)) c.deref.ensures.value in
    handed_on (IsOfWrite m Damage) (Store fault) c.from_residual-in_err-id.result c.from_residual-in_err-id.ensures.1
    (root_refused m closes.more c.in_ok-parts.parts.items closes.building c.in_ok-parts.ensures.inside Damage c.deref-2.result.now fault closes.fits is c.in_err-id.ensures.answers.refused
    (λ id e honest. still_damaged (content c.root_parts.new.files) (content c.put.new.files) fault id (c.in_err-id.ensures.puts.err honest) (c.in_err-id.ensures.puts.damaged honest) e))

pub returns-in_err-id-clause-undamaged : goal.returns-in_err-id-clause-undamaged
returns-in_err-id-clause-undamaged g c = λ honest. damage_then (c.in_ok-parts.ensures.undamaged honest) (damage_same _ _ (c.in_err-id.ensures.puts.err honest))

pub returns-clause-undamaged : goal.returns-clause-undamaged
returns-clause-undamaged g c = λ honest.
    let content = g.F.Files.content in
    damage_then (c.in_ok-parts.ensures.undamaged honest) (damage_put (content c.root_parts.new.files) (content c.put.new.files) kinds.Tree c.deref-2.result.now c.in_ok-id.id c.in_ok-id.ensures.answers.name c.named.ensures.valid (c.in_ok-id.ensures.puts.files honest) (c.in_ok-id.ensures.puts.objects honest))

pub returns-in_err-id-clause-wear : goal.returns-in_err-id-clause-wear
returns-in_err-id-clause-wear g c = writes_both c.in_ok-parts.ensures.wear (search rules) (writes_told c.in_err-id.ensures.wear (search rules) (search rules))

pub returns-clause-wear : goal.returns-clause-wear
returns-clause-wear g c = writes_both c.in_ok-parts.ensures.wear (search rules) (writes_told c.in_ok-id.ensures.wear (search rules) (search rules))
