use Rattle.std.proofs.Common.{rules, refl}
use Rattle.vc_simulation.proofs.SharedLemmas.{no_value_answers, value_answers, value_bad, value_halted}
use Rattle.vc_simulation.proofs.world_shared.WorldShared.value.Goals as goal

pub returns-in-Err-BadSyntax-clause-err : goal.returns-in-Err-BadSyntax-clause-err
returns-in-Err-BadSyntax-clause-err g c honest = value_bad g.F.Files.content g.F.Files.can_fail g.F.Files.left _ _ c.args.text.now c.in-Err-BadSyntax.field-0-0 c.requires refl (search rules)

pub returns-in-Err-Memory-clause-err : goal.returns-in-Err-Memory-clause-err
returns-in-Err-Memory-clause-err g c honest = value_halted g.F.Files.content g.F.Files.can_fail g.F.Files.left _ _ c.args.text.now c.requires c.take_down.ensures.up c.take_down.ensures.files c.take_down.ensures.slots

pub returns-clause-found : goal.returns-clause-found
returns-clause-found g c honest = value_answers g.F.Files.honest g.F.Files.content g.F.Files.failed g.F.Files.can_fail g.F.Files.left c.args.self.now.node c.resolve-called.new.self c.args.text.now c.resolve-called.result
    (c.resolve-called.ensures.answers honest c.args.text.now (search rules)) c.resolve-called.ensures.wear c.resolve-called.ensures.settles _ c.shared_value.ensures.ok

pub returns-clause-err : goal.returns-clause-err
returns-clause-err g c honest = no_value_answers g.F.Files.honest g.F.Files.content g.F.Files.failed g.F.Files.can_fail g.F.Files.left c.args.self.now.node c.resolve-called.new.self c.args.text.now c.resolve-called.result
    (c.resolve-called.ensures.answers honest c.args.text.now (search rules)) c.resolve-called.ensures.wear c.resolve-called.ensures.settles _ honest c.resolve-called.ensures.same c.shared_value.ensures.err
