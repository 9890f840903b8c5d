-- What is needed of one command after another.
use Rattle.std.proofs.Common.{◌≡◌, ◌∷◌, ◌++◌, [], ◌∙◌, ◌+◌, ℕ, List, Some, ap, arith, length, slice_get, sym, take}
use Rattle.std.proofs.lemmas.List.{append_assoc, append-nil, length-map, length-take-le, map_more, take_more}
use Rattle.std.proofs.lemmas.Option.{get_or_from_slice_get, slice_get_within}
use Rattle.vc_push.specs.Push.{CommandText}
use Rattle.vc_push.specs.PushView.{command_of, commands_of}
use Rattle.vc_push.specs.declared.command.Command.{Command}
use Rattle.vc_push_rules.specs.declared.stage.Verdict.{Verdict}
use Rattle.vc_session.specs.Needing.{unrefused_id, unrefused_ids}

-- one command more adds its id
unrefused_more : (cs : List CommandText) (vs : List Verdict) (c : CommandText) (v : Verdict) → length vs ≡ length cs
    → unrefused_ids (cs ++ c ∷ []) (vs ++ v ∷ []) ≡ unrefused_ids cs vs ++ unrefused_id c v
unrefused_more [] [] c v same = append-nil (unrefused_id c v)
unrefused_more [] (w ∷ ws) c v same = absurd (omega (arith, same))
unrefused_more (d ∷ ds) [] c v same = absurd (omega (arith, same))
unrefused_more (d ∷ ds) (w ∷ ws) c v same =
    ap (λ rest. unrefused_id d w ++ rest) (unrefused_more ds ws c v (omega (arith, same))) ∙ sym (append_assoc (unrefused_id d w) (unrefused_ids ds ws) (unrefused_id c v))

pub unrefused_next : (commands : List Command) (verdicts : List Verdict) (i : ℕ) (c : Command) (v : Verdict) → length verdicts ≡ length commands → slice_get commands i ≡ Some c → slice_get verdicts i ≡ Some v
    → unrefused_ids (commands_of (take (i + 1) commands)) (take (i + 1) verdicts) ≡ unrefused_ids (commands_of (take i commands)) (take i verdicts) ++ unrefused_id (command_of c) v
unrefused_next commands verdicts i c v paired command_is verdict_is =
    let within = slice_get_within commands i c command_is in
    let next_command : commands_of (take (i + 1) commands) ≡ commands_of (take i commands) ++ command_of c ∷ [] = map_more command_of commands i c within ∙ ap (λ x. commands_of (take i commands) ++ command_of x ∷ []) (get_or_from_slice_get commands i c c command_is) in
    let next_verdict : take (i + 1) verdicts ≡ take i verdicts ++ v ∷ [] = take_more verdicts i v (slice_get_within verdicts i v verdict_is) ∙ ap (λ x. take i verdicts ++ x ∷ []) (get_or_from_slice_get verdicts i v v verdict_is) in
    let as_many : length (take i verdicts) ≡ length (commands_of (take i commands)) =
    length-take-le i verdicts (omega (arith, within, paired)) ∙ sym (length-map (take i commands) command_of ∙ length-take-le i commands (omega (arith, within))) in
    ap (λ cs. unrefused_ids cs (take (i + 1) verdicts)) next_command ∙ ap (λ vs. unrefused_ids (commands_of (take i commands) ++ command_of c ∷ []) vs) next_verdict
    ∙ unrefused_more (commands_of (take i commands)) (take i verdicts) (command_of c) v as_many
