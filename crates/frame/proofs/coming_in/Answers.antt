-- `coming_in` is the picture's pixel.
use Rattle.frame.proofs.FrameLaws.{after_the_frame, during_the_frame}
use Rattle.frame.proofs.coming_in.Goals as goal

pub returns-then-tick-ge-FRAME : goal.returns-then-tick-ge-FRAME
returns-then-tick-ge-FRAME c = search after_the_frame

pub returns : goal.returns
returns c = search during_the_frame
