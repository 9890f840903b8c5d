use Rattle.std.proofs.Common.{◌≡◌, ◌++◌, ◌+◌, [], ◌∷◌, ap, sym, ◌∙◌, append-nil, encode_utf8, flat_map, slice_index, take, rules}
use Rattle.std.proofs.Output.{has_written_append, has_written_of_eq, writes_in_calls_nil}
use Rattle.std.proofs.lemmas.Grind.{flat_map-append}
use Rattle.std.proofs.lemmas.List.{take_all, take_more}
use Rattle.vc_cli.specs.Told.{shown_byte, shown_text}
use Rattle.vc_cli.proofs.failure.write_shown.Goals as goal

pub bytes-init : goal.bytes-init
bytes-init g c = λ plain. record { wrote = writes_in_calls_nil _ _; plain = plain }

pub bytes-preserved : goal.bytes-preserved
bytes-preserved g c =
    λ plain.
    let text = c.args.text.now in
    let at = c.bytes.byte-index in
    let last = slice_index text at in
    let before = shown_text (take at text) in
    let longer : take (at + 1) text ≡ take at text ++ last ∷ [] = take_more text at 0 (search rules) in
    let after : before ++ encode_utf8 (shown_byte last) ≡ shown_text (take (at + 1) text) =
    sym (ap shown_text longer ∙ flat_map-append (λ byte. encode_utf8 (shown_byte byte)) (take at text) (last ∷ []) ∙ ap (λ l. before ++ l) (append-nil (encode_utf8 (shown_byte last)))) in
    has_written_of_eq _ _ (before ++ encode_utf8 (shown_byte last)) _ _ after (has_written_append _ _ before _ (encode_utf8 (shown_byte last)) _ (c.bytes.invariant plain) (search rules))

pub returns : goal.returns
returns g c =
    λ plain ok.
    let all : shown_text (take c.bytes.byte-index c.args.text.now) ≡ shown_text c.args.text.now = ap shown_text (take_all c.bytes.byte-index c.args.text.now (search rules)) in
    has_written_of_eq _ _ _ _ _ all (c.bytes.invariant plain)
