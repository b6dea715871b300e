-- Points in a frame: what the places of a row hold, and what is taken from them; and the same with the velocities set apart. Assumes nothing.
pub mod InFrame
pub mod Apart
