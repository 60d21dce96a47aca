pub mod Recasts
