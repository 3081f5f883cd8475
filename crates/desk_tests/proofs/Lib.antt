mod AlwaysText
mod StillMirrored
