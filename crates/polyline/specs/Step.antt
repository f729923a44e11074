-- What a byte makes of the stage that a points text stands in: the next stage, or none where the byte may not stand there. Names only.
use Rattle.std.specs.Prelude.{Option, Some, None}
use Rattle.polyline.specs.declared.Stage.{Stage}

abbrev pub Step : Type 0
Step = Option Stage

pattern abbrev pub To : Stage → Step
To s = Some s

pattern abbrev pub Stranger : Step
Stranger = None
