use Rattle.std.proofs.Common.{rules, ◌≡◌, ◌&&◌, ℕ, List, Option, None, Result, true, false, nat_eq, is_some, inl, inr, ap, sym, refl, ◌∙◌, subst}
use Rattle.std.specs.Prelude.{IfOk, IfErr, IsErrOf, codes}
use Rattle.std.specs.List.{starts_with}
use Rattle.std.specs.Str.{is_utf8}
use Rattle.vc_files.proofs.WearLemmas.{wears_then, wears_writes, writes_told}
use Rattle.vc_files.specs.Failures.{Writes}
use Rattle.vc_files.specs.FileMap.{FileMap}
use Rattle.vc_files.specs.declared.faults.Fault.TheVariants.{Device}
use Rattle.vc_push.specs.PushView.{command_of}
use Rattle.vc_push.specs.declared.reason.Reason.{Reason}
use Rattle.vc_refname.specs.RefName.{is_ref_name}
use Rattle.vc_refs.specs.Head.{KeepsTheRest}
use Rattle.vc_refs.specs.RefFault.{BlamesRef, BlamesSet, MaySet}
use Rattle.vc_refs.specs.RefMap.{with_ref}
use Rattle.vc_refs.specs.Refs.{packed_map, refs}
use Rattle.vc_refs.specs.declared.faults.RefFault.{RefFault}
use Rattle.vc_refs.specs.declared.faults.RefFault.TheVariants.{Fault}
use Rattle.vc_session.specs.Updating.{BlamesUpdate}
use Rattle.vc_push_rules.specs.Verdict.{IsVerdictAtUpdate, is_tag}
use Rattle.vc_quarantine.proofs.CleanLemmas.{bad_from, bad_ref}
use Rattle.vc_session.proofs.UpdateLemmas.{device_meant, device_told, moved, only_name, packed_set, passes, refused_blames, refused_verdict, tag_blames}
use Rattle.vc_quarantine.proofs.WearLemmas.{wears_both}
use Rattle.vc_session.proofs.updating.update.Goals as goal

pub returns-in_err-is_standing_tag-clause-wear : goal.returns-in_err-is_standing_tag-clause-wear
returns-in_err-is_standing_tag-clause-wear g c = writes_told (wears_writes c.in_err-is_standing_tag.ensures.wear (λ _. c.in_err-is_standing_tag.ensures.same)) (search rules) (search rules)

pub returns-in_err-is_standing_tag-clause-refused : goal.returns-in_err-is_standing_tag-clause-refused
returns-in_err-is_standing_tag-clause-refused g c = λ honest.
    let content = g.F.Files.content c.args.files.now in
    let named : c.in-Some.name ≡ c.args.command.now.name.items = only_name (is_utf8 c.deref.result.now && is_ref_name c.deref.result.now) c.deref.result.now c.in-Some.name (sym c.in-Some.is ∙ c.in_ok-name.ensures) ∙ c.deref.ensures.value in
    let blames : BlamesRef content c.args.command.now.name.items c.in_err-is_standing_tag.field-0.0 = subst (λ (n : List ℕ). BlamesRef content n c.in_err-is_standing_tag.field-0.0) named (c.in_err-is_standing_tag.ensures.refused honest) in
    let told : BlamesUpdate content c.args.command.now.name.items c.in_err-is_standing_tag.field-0.0 = tag_blames content c.args.command.now.name.items c.in_err-is_standing_tag.field-0.0 blames in
    search (rules, told)

pub returns-then-branch-clause-wear : goal.returns-then-branch-clause-wear
returns-then-branch-clause-wear g c = writes_told (wears_writes c.in_ok-is_standing_tag.ensures.wear (λ _. c.in_ok-is_standing_tag.ensures.same)) (search rules) (search rules)

pub returns-in-Ok-clause-verdict : goal.returns-in-Ok-clause-verdict
returns-in-Ok-clause-verdict g c = λ honest may.
    let content = g.F.Files.content in
    let command = command_of c.args.command.now in
    let named : c.in-Some.name ≡ command.name = only_name (is_utf8 c.deref.result.now && is_ref_name c.deref.result.now) c.deref.result.now c.in-Some.name (sym c.in-Some.is ∙ c.in_ok-name.ensures) ∙ c.deref.ensures.value in
    let standing : false ≡ (is_tag c.in-Some.name && is_some (refs (content c.args.files.now) c.in-Some.name)) = search (rules, c.in_ok-is_standing_tag.ensures.standing honest, c.if-branch.false) in
    let no_tag : (is_tag command.name && is_some (refs (content c.args.files.now) command.name)) ≡ false = subst (λ (n : List ℕ). (is_tag n && is_some (refs (content c.args.files.now) n)) ≡ false) named (sym standing) in
    passes (content c.args.files.now) command no_tag (moved MaySet c.in_ok-is_standing_tag.ensures.same named c.expected-expected.ensures (c.in-Ok.ensures.allowed honest))

pub returns-in-Ok-clause-allowed : goal.returns-in-Ok-clause-allowed
returns-in-Ok-clause-allowed g c = λ honest none.
    let named : c.in-Some.name ≡ c.args.command.now.name.items = only_name (is_utf8 c.deref.result.now && is_ref_name c.deref.result.now) c.deref.result.now c.in-Some.name (sym c.in-Some.is ∙ c.in_ok-name.ensures) ∙ c.deref.ensures.value in
    moved MaySet c.in_ok-is_standing_tag.ensures.same named c.expected-expected.ensures (c.in-Ok.ensures.allowed honest)

pub returns-in-Ok-clause-updates : goal.returns-in-Ok-clause-updates
returns-in-Ok-clause-updates g c =
    let content = g.F.Files.content in
    let id = c.args.command.now.new in
    let same = c.in_ok-is_standing_tag.ensures.same in
    let named : c.in-Some.name ≡ c.args.command.now.name.items = only_name (is_utf8 c.deref.result.now && is_ref_name c.deref.result.now) c.deref.result.now c.in-Some.name (sym c.in-Some.is ∙ c.in_ok-name.ensures) ∙ c.deref.ensures.value in
    let inside : starts_with nat_eq c.in-Some.name (codes "refs/") ≡ true = search rules in
    record {
      set = λ honest.
          c.in-Ok.ensures.sets.set honest
          ∙ ap (λ (m : FileMap). with_ref (refs m) c.in-Some.name id) same
          ∙ ap (λ (n : List ℕ). with_ref (refs (content c.args.files.now)) n id) named;
      rest = λ honest. moved (λ files name value. KeepsTheRest name files (content c.set.new.files)) {e = None} same named refl (c.in-Ok.ensures.sets.rest honest);
      err = search rules;
      bad = λ honest. bad_from same (bad_ref _ _ c.in-Some.name (c.in-Ok.ensures.sets.rest honest));
      packed = λ honest. packed_set _ _ c.in-Some.name inside (c.in-Ok.ensures.sets.only honest) ∙ ap packed_map same;
    }

pub returns-in-Ok-clause-wear : goal.returns-in-Ok-clause-wear
returns-in-Ok-clause-wear g c = wears_then c.in_ok-is_standing_tag.ensures.wear (λ _. c.in_ok-is_standing_tag.ensures.same) (search rules) (writes_told c.in-Ok.ensures.wear (search rules) (search rules))

pub returns-clause-verdict : goal.returns-clause-verdict
returns-clause-verdict g c = λ honest may.
    let content = g.F.Files.content in
    let command = command_of c.args.command.now in
    let named : c.in-Some.name ≡ command.name = only_name (is_utf8 c.deref.result.now && is_ref_name c.deref.result.now) c.deref.result.now c.in-Some.name (sym c.in-Some.is ∙ c.in_ok-name.ensures) ∙ c.deref.ensures.value in
    let standing : false ≡ (is_tag c.in-Some.name && is_some (refs (content c.args.files.now) c.in-Some.name)) = search (rules, c.in_ok-is_standing_tag.ensures.standing honest, c.if-branch.false) in
    let no_tag : (is_tag command.name && is_some (refs (content c.args.files.now) command.name)) ≡ false = subst (λ (n : List ℕ). (is_tag n && is_some (refs (content c.args.files.now) n)) ≡ false) named (sym standing) in
    let blames = moved (λ files name value. BlamesSet files name value c.in-Err.fault) c.in_ok-is_standing_tag.ensures.same named c.expected-expected.ensures (c.in-Err.ensures.refused honest) in
    subst (λ (r : Result (Option Reason) RefFault). IfOk r (IsVerdictAtUpdate (refs (content c.args.files.now)) command)) (sym c.reason_of.ensures) (refused_verdict (content c.args.files.now) command no_tag c.in-Err.fault blames)

pub returns-clause-refused : goal.returns-clause-refused
returns-clause-refused g c = λ honest.
    let content = g.F.Files.content in
    let command = command_of c.args.command.now in
    let named : c.in-Some.name ≡ command.name = only_name (is_utf8 c.deref.result.now && is_ref_name c.deref.result.now) c.deref.result.now c.in-Some.name (sym c.in-Some.is ∙ c.in_ok-name.ensures) ∙ c.deref.ensures.value in
    let blames = moved (λ files name value. BlamesSet files name value c.in-Err.fault) c.in_ok-is_standing_tag.ensures.same named c.expected-expected.ensures (c.in-Err.ensures.refused honest) in
    subst (λ (r : Result (Option Reason) RefFault). IfErr r (BlamesUpdate (content c.args.files.now) command.name)) (sym c.reason_of.ensures) (refused_blames (content c.args.files.now) command c.in-Err.fault blames)

pub returns-clause-wear : goal.returns-clause-wear
returns-clause-wear g c =
    wears_then c.in_ok-is_standing_tag.ensures.wear (λ _. c.in_ok-is_standing_tag.ensures.same) (search rules)
    (subst (λ (r : Result (Option Reason) RefFault). Writes g.F.Files.honest g.F.Files.content g.F.Files.failed g.F.Files.can_fail g.F.Files.left c.is_standing_tag.new.files c.set.new.files (IsErrOf r (Fault Device))) (sym c.reason_of.ensures)
    (writes_told c.in-Err.ensures.wear (device_told (Unit {0}) c.in-Err.fault) (device_meant (Unit {0}) c.in-Err.fault)))

pub returns-in-Ok-clause-looks : goal.returns-in-Ok-clause-looks
returns-in-Ok-clause-looks g c = λ honest may. inl (returns-in-Ok-clause-verdict g c honest may)

pub returns-clause-looks : goal.returns-clause-looks
returns-clause-looks g c = λ honest may.
    let content = g.F.Files.content in
    let command = command_of c.args.command.now in
    let named : c.in-Some.name ≡ command.name = only_name (is_utf8 c.deref.result.now && is_ref_name c.deref.result.now) c.deref.result.now c.in-Some.name (sym c.in-Some.is ∙ c.in_ok-name.ensures) ∙ c.deref.ensures.value in
    let standing : false ≡ (is_tag c.in-Some.name && is_some (refs (content c.args.files.now) c.in-Some.name)) = search (rules, c.in_ok-is_standing_tag.ensures.standing honest, c.if-branch.false) in
    let no_tag : (is_tag command.name && is_some (refs (content c.args.files.now) command.name)) ≡ false = subst (λ (n : List ℕ). (is_tag n && is_some (refs (content c.args.files.now) n)) ≡ false) named (sym standing) in
    elim (c.in-Err.ensures.looks honest) [
      | inl may ↦ inl (passes (content c.args.files.now) command no_tag (moved MaySet c.in_ok-is_standing_tag.ensures.same named c.expected-expected.ensures may.1))
      | inr wears ↦ inr (wears_both c.in_ok-is_standing_tag.ensures.wear wears (λ told. device_meant (Unit {0}) c.in-Err.fault (subst (λ (r : Result (Option Reason) RefFault). IsErrOf r (Fault Device)) c.reason_of.ensures told)))
    ]
