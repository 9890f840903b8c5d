use Rattle.vc_refs.specs.Obstacle.{IsFree}
use Rattle.vc_files.specs.FileMap.{FileMap}
use Rattle.vc_local.proofs.LookLemmas.{looks_told, or_told, looks_or}
use Rattle.std.proofs.Common.{rules, inr, subst, sym}
use Rattle.vc_refs.specs.RefFault.{BlamesSet}
use Rattle.vc_local.specs.Blames.{BlamesPut}
use Rattle.vc_local.specs.Reads.{IsAtName, NoneRead, TellsRead}
use Rattle.vc_local.specs.declared.fault.NodeFault.TheVariants.{Ref}
use Rattle.vc_local.proofs.RefBlames.{look_at_name, look_put, set_at_name, set_put}
use Rattle.vc_files.proofs.WearLemmas.{wears_then, wears_writes, writes_told}
use Rattle.vc_refs.specs.RefMap.{RefMap, with_ref}
use Rattle.vc_local.proofs.ShownLemmas.{shown_refs_from}
use Rattle.vc_local.proofs.CleanLemmas.{clean_from, clean_set}
use Rattle.vc_local.proofs.local.put_ref.Goals as goal

pub returns-clause-set : goal.returns-clause-set
returns-clause-set g c = λ honest.
    shown_refs_from _ _ _ c.args.name.now (λ (r : RefMap). with_ref r c.args.name.now c.args.id) c.in_ok-current.ensures.same (c.in_ok-set.ensures.sets.rest honest) (c.in_ok-set.ensures.sets.set honest)

pub returns-clause-kept : goal.returns-clause-kept
returns-clause-kept g c = λ honest. record { err = tt; clean = clean_from _ _ _ c.in_ok-current.ensures.same (clean_set _ _ c.args.name.now c.requires (c.in_ok-set.ensures.sets.rest honest) (c.in_ok-set.ensures.sets.only honest)) }

pub returns-in_err-current-clause-wear : goal.returns-in_err-current-clause-wear
returns-in_err-current-clause-wear g c = writes_told (wears_writes c.in_err-current.ensures.wear (search rules)) (search rules) (search rules)

pub returns-in_err-set-clause-wear : goal.returns-in_err-set-clause-wear
returns-in_err-set-clause-wear g c = wears_then c.in_ok-current.ensures.wear (search rules) (search rules) (writes_told c.in_err-set.ensures.wear (search rules) (search rules))

pub returns-clause-wear : goal.returns-clause-wear
returns-clause-wear g c = wears_then c.in_ok-current.ensures.wear (search rules) (search rules) (writes_told c.in_ok-set.ensures.wear (search rules) (search rules))

pub returns-in_err-current-clause-looks : goal.returns-in_err-current-clause-looks
returns-in_err-current-clause-looks g c = λ honest. inr (looks_told c.in_err-current.ensures.wear (search rules))

pub returns-in_err-set-clause-looks : goal.returns-in_err-set-clause-looks
returns-in_err-set-clause-looks g c = λ honest.
    let name = c.args.name.now in
    looks_or c.in_ok-current.ensures.wear (or_told (c.in_err-set.ensures.looks honest) (λ may. may) (search rules))
    (λ may. (may.0, subst (λ (m : FileMap). IsFree m name) c.in_ok-current.ensures.same may.1.free))

pub returns-clause-looks : goal.returns-clause-looks
returns-clause-looks g c = λ honest.
    let name = c.args.name.now in
    looks_or c.in_ok-current.ensures.wear (or_told (c.in_ok-set.ensures.looks honest) (λ may. may) (search rules))
    (λ may. (may.0, subst (λ (m : FileMap). IsFree m name) c.in_ok-current.ensures.same may.1.free))

pub returns-in_err-current-clause-refused : goal.returns-in_err-current-clause-refused
returns-in_err-current-clause-refused g c = λ honest.
    let told : BlamesPut (g.F.Files.content c.args.files.now) c.args.name.now (Ref c.in_err-current.field-0.0) = look_put _ _ _ (c.in_err-current.ensures.refused honest) in
    search (rules, told)

pub returns-in_err-set-clause-refused : goal.returns-in_err-set-clause-refused
returns-in_err-set-clause-refused g c = λ honest.
    let content = g.F.Files.content c.args.files.now in
    let blames : BlamesSet content c.args.name.now c.in_ok-current.current c.in_err-set.field-0.0 = rw c.in_ok-current.ensures.same at (c.in_err-set.ensures.refused honest) in
    let told : BlamesPut content c.args.name.now (Ref c.in_err-set.field-0.0) = set_put _ _ _ (sym (c.in_ok-current.ensures.found honest)) _ blames in
    search (rules, told)

pub returns-in_err-current-clause-file : goal.returns-in_err-current-clause-file
returns-in_err-current-clause-file g c = λ honest.
    let told : TellsRead NoneRead (IsAtName (g.F.Files.content c.args.files.now) c.args.name.now) (Ref c.in_err-current.field-0.0) = look_at_name _ _ _ (c.in_err-current.ensures.refused honest) in
    search (rules, told)

pub returns-in_err-set-clause-file : goal.returns-in_err-set-clause-file
returns-in_err-set-clause-file g c = λ honest.
    let content = g.F.Files.content c.args.files.now in
    let blames : BlamesSet content c.args.name.now c.in_ok-current.current c.in_err-set.field-0.0 = rw c.in_ok-current.ensures.same at (c.in_err-set.ensures.refused honest) in
    let told : TellsRead NoneRead (IsAtName content c.args.name.now) (Ref c.in_err-set.field-0.0) = set_at_name _ _ c.in_ok-current.current _ blames in
    search (rules, told)
