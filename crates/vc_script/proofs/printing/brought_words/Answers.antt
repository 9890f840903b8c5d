use Rattle.vc_script.proofs.PrintingLemmas.{no_refusal, read_words}
use Rattle.vc_script.proofs.printing.brought_words.Goals as goal

pub returns-in_ok-words-in-Ok : goal.returns-in_ok-words-in-Ok
returns-in_ok-words-in-Ok c = λ message spelled. read_words _ message _ (c.in-Ok.ensures.read message spelled) c.in_ok-words-in-Ok.ensures

pub returns-in-Err-Refused : goal.returns-in-Err-Refused
returns-in-Err-Refused c = λ message spelled. no_refusal _ message _ _ c.in-Err-Refused.field-0-is (c.in-Err-Refused.ensures.read message spelled)
