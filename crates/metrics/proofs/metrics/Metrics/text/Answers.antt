use Rattle.std.proofs.Common.{refl}
use Rattle.metrics.specs.Metrics.{text_of}
use Rattle.metrics.proofs.metrics.Metrics.text.Goals as goal

pub returns : goal.returns
unfolding text_of
returns c = rw (
  c.in_ok-push_row-2.ensures,
  c.in_ok-push_str-4.ensures.bytes,
  c.as_str-4.ensures.value,
  c.in_ok-refused_text.ensures,
  c.as_slice-3.ensures.value,
  c.in_ok-push_str-3.ensures.bytes,
  c.as_str-3.ensures.value,
  c.in_ok-requests_text.ensures,
  c.as_slice-2.ensures.value,
  c.in_ok-push_str-2.ensures.bytes,
  c.as_str-2.ensures.value,
  c.in_ok-connections_text.ensures,
  c.as_slice.ensures.value,
  c.in_ok-push_str.ensures.bytes,
  c.as_str.ensures.value,
  c.in_ok-sizes_text.ensures,
  c.in_ok-push_row.ensures,
  c.in_ok-text.ensures,
) refl
