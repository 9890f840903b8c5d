use Rattle.std.proofs.Common.{ap, sym, ◌∙◌}
use Rattle.std.specs.List.{flat_map}
use Rattle.vc_pkt.specs.Line.{spelling}
use Rattle.vc_message.specs.AnyMessage.{message_lines}
use Rattle.vc_message.proofs.OneWriting.{written_back}
use Rattle.vc_message.proofs.laws.one_writing.Goals as goal

pub returns : goal.returns
returns c = λ m a b plain x y.
    x.spelled ∙ ap (λ t. flat_map spelling (message_lines t)) (written_back x.text m x.written plain x.is ∙ sym (written_back y.text m y.written plain y.is)) ∙ sym y.spelled
