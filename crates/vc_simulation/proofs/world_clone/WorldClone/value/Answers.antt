use Rattle.std.proofs.Common.{rules, refl}
use Rattle.vc_simulation.proofs.CloneLemmas.{memory_halted, no_value_answers, value_answers, value_bad}
use Rattle.vc_simulation.specs.Values.{IsNoValue}
use Rattle.vc_simulation.proofs.world_clone.WorldClone.value.Goals as goal

pub returns-in-Err-BadSyntax-clause-err : goal.returns-in-Err-BadSyntax-clause-err
returns-in-Err-BadSyntax-clause-err g c honest = value_bad g.F.Files.content g.F.Files.can_fail g.F.Files.left _ _ c.args.text.now c.in-Err-BadSyntax.field-0-0 c.requires refl (search rules)

pub returns-in-Err-Memory-clause-err : goal.returns-in-Err-Memory-clause-err
returns-in-Err-Memory-clause-err g c honest = memory_halted g.F.Files.content g.F.Files.can_fail g.F.Files.left (IsNoValue c.args.text.now) _ _ _ c.requires c.halt.ensures.up c.halt.ensures.files c.halt.ensures.awaits c.halt.ensures.end

pub returns-clause-found : goal.returns-clause-found
returns-clause-found g c honest = value_answers g.F.Files.honest g.F.Files.content g.F.Files.failed g.F.Files.can_fail g.F.Files.left c.args.self.now.node c.resolve-called.new.self c.args.text.now c.resolve-called.result
    (c.resolve-called.ensures.answers honest c.args.text.now (search rules)) c.resolve-called.ensures.wear c.resolve-called.ensures.settles _ c.clone_value.ensures.ok

pub returns-clause-err : goal.returns-clause-err
returns-clause-err g c honest = no_value_answers g.F.Files.honest g.F.Files.content g.F.Files.failed g.F.Files.can_fail g.F.Files.left c.args.self.now.node c.resolve-called.new.self c.args.text.now c.resolve-called.result
    (c.resolve-called.ensures.answers honest c.args.text.now (search rules)) c.resolve-called.ensures.wear c.resolve-called.ensures.settles _ honest c.resolve-called.ensures.same c.requires c.clone_value.ensures.err
