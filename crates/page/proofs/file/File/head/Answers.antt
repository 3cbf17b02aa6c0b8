use Rattle.std.proofs.Common.{refl}
use Rattle.page.specs.Answer.{head_of}
use Rattle.page.proofs.file.File.head.Goals as goal

pub returns : goal.returns
unfolding head_of
returns c = rw (c.in_ok-push_str-2.ensures.bytes, c.in_ok-push_field-4.ensures, c.in_ok-push_origin.ensures, c.in_ok-push_field-3.ensures, c.in_ok-push_field-2.ensures, c.in_ok-push_length.ensures, c.in_ok-push_field.ensures, c.in_ok-push_str.ensures.bytes, c.new-text.ensures.bytes, c.media_type.ensures, c.as_slice.ensures.value, c.as_str.ensures) refl
