-- What a content and a shape tell, as the description has them. Assumes nothing.
use Rattle.description.specs.Description.{Shape as Laid}
use Rattle.describe.specs.Constants.{Content as Held}
use Rattle.sheet_constants.specs.declared.Content.{Content}
use Rattle.sheet_constants.specs.declared.Content.TheVariants as content
use Rattle.sheet_constants.specs.declared.Shape.{Shape}
use Rattle.sheet_constants.specs.declared.Shape.TheVariants as shape

abbrev pub told_content : Content → Held
told_content content.Bare = Held.bare
told_content (content.Digits n) = Held.digits n
told_content (content.Span p) = Held.span p

abbrev pub told_shape : Shape → Laid
told_shape shape.Empty = Laid.empty
told_shape (shape.Number w) = Laid.number w
told_shape shape.Bit = Laid.bit
told_shape (shape.Octets k) = Laid.octets k
told_shape shape.Text = Laid.text
